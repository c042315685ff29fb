use Rattle.std.proofs.Common.{◌∙◌, ℕ, List, Option, Some, sym, ap, take}
use Rattle.std.specs.Prelude.{option_map}
use Rattle.bar_window.specs.Code.Window.{members}
use Rattle.bar_window.specs.declared.update.UpdateId.{UpdateId}
use Rattle.bar_wire.specs.Datagram.{Divulge}
use Rattle.bar_exchange.specs.Code.Writing.{bytes_to}
use Rattle.bar_balanced.proofs.writing.write_divulge.Goals as goal

pub returns-in_err-nonce-clause-written : goal.returns-in_err-nonce-clause-written
returns-in_err-nonce-clause-written c me k tells recent =
    ap (option_map (λ n. take n c.args.out.now)) c.from_residual.ensures
    ∙ ap (λ (r : Option (List ℕ × List UpdateId)). option_map (bytes_to me c.args.x) (option_map (λ a. Divulge c.args.x.round a.0 a.1) r))
    (sym (ap (option_map (λ c. (c.0, members c.1))) c.in_err-nonce.was) ∙ c.revealed.ensures.known me k tells recent)

pub returns-clause-written : goal.returns-clause-written
returns-clause-written c me k tells recent =
    ap Some (c.write_message.ensures.written me k tells)
    ∙ ap (λ (r : Option (List ℕ × List UpdateId)). option_map (bytes_to me c.args.x) (option_map (λ a. Divulge c.args.x.round a.0 a.1) r))
    (sym (ap (option_map (λ c. (c.0, members c.1))) c.in_ok-nonce.was) ∙ c.revealed.ensures.known me k tells recent)
