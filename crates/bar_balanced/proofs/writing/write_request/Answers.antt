use Rattle.std.proofs.Common.{◌≡◌, ◌∙◌, ℕ, List, Option, Some, sym, ap, take}
use Rattle.std.specs.Prelude.{option_map}
use Rattle.bar_window.specs.Places.{words_in}
use Rattle.bar_window.specs.Code.Window.{members}
use Rattle.bar_window.specs.declared.update.UpdateId.{UpdateId}
use Rattle.bar_wire.specs.Datagram.{Request}
use Rattle.bar_wire.specs.Grammar.{is_wide}
use Rattle.bar_seeds.specs.Derived as derived
use Rattle.bar_rules.specs.Member.{Session}
use Rattle.bar_rules.specs.Secrets.{seed_of, commitment_of}
use Rattle.bar_exchange.specs.Code.Writing.{bytes_to}
use Rattle.bar_balanced.proofs.writing.write_request.Goals as goal

pub returns-in_err-nonce-clause-written : goal.returns-in_err-nonce-clause-written
returns-in_err-nonce-clause-written c me k tells recent round =
    ap (option_map (λ n. take n c.args.out.now)) c.from_residual.ensures
    ∙ ap (λ (r : Option (List ℕ × List UpdateId)). option_map (bytes_to me c.args.x) (option_map (λ a. Request c.args.x.round (seed_of me c.args.x.round) (commitment_of me.session c.args.x a.0 a.1)) r))
    (sym (ap (option_map (λ c. (c.0, members c.1))) c.in_err-nonce.was) ∙ c.revealed.ensures.known me k tells recent)

pub returns-clause-written : goal.returns-clause-written
returns-clause-written c me k tells recent round =
    let seed : c.in_ok-seed.seed ≡ seed_of me c.args.x.round =
    (let both : Some c.in_ok-seed.seed ≡ Some (seed_of me c.args.x.round) = sym c.in_ok-seed.was ∙ c.seed_of.ensures me k tells round in cc)
    in
    let shape : c.shape-shape.result ≡ me.session.shape = c.shape-shape.ensures.value ∙ sym (ap (λ (s : Session). s.shape) tells.session) in
    let wide : c.in_ok-nonce.ha.wide ≡ is_wide me.session.shape = c.in_ok-nonce.ensures.windows.wide ∙ ap (λ (s : Session). is_wide s.shape) (sym tells.session) in
    let commitment
    : c.commitment-commitment.result ≡ commitment_of me.session c.args.x c.in_ok-nonce.nonce (members c.in_ok-nonce.ha) =
    c.commitment-commitment.ensures
    ∙ (λ i. derived.commitment_of (words_in (wide i)) (shape i).life (shape i).id c.args.x c.in_ok-nonce.nonce (members c.in_ok-nonce.ha))
    in
    ap Some (c.write_message.ensures.written me k tells)
    ∙ (λ i. Some (bytes_to me c.args.x (Request c.args.x.round (seed i) (commitment i))))
    ∙ ap (λ (r : Option (List ℕ × List UpdateId)). option_map (bytes_to me c.args.x) (option_map (λ a. Request c.args.x.round (seed_of me c.args.x.round) (commitment_of me.session c.args.x a.0 a.1)) r))
    (sym (ap (option_map (λ c. (c.0, members c.1))) c.in_ok-nonce.was) ∙ c.revealed.ensures.known me k tells recent)
