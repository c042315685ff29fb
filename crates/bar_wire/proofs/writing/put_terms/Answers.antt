use Rattle.std.proofs.Common.{sym, subst}
use Rattle.std.specs.List.{concat}
use Rattle.bar_window.specs.declared.terms.Terms.{Terms as RawTerms}
use Rattle.bar_window.specs.Terms.{plain_terms}
use Rattle.bar_wire.specs.Grammar.{term_pieces}
use Rattle.bar_wire.specs.Code.Views.{AreTermWindows}
use Rattle.bar_bytes.specs.Code.Putting.{Appends}
use Rattle.bar_wire.proofs.Writes.{writes_then, writes_last}
use Rattle.bar_wire.proofs.writing.put_terms.Goals as goal

pub returns-in-Balanced-clause-writes : goal.returns-in-Balanced-clause-writes
returns-in-Balanced-clause-writes c = λ round of.
    let s = c.args.shape.now in
    let windows = subst (λ (t : RawTerms). AreTermWindows s round t) c.in-Balanced.is of in
    subst (λ (t : RawTerms). Appends c.args.out.now c.args.at (concat (term_pieces s round (plain_terms t))) c.put_window.new.out c.put_window.result) (sym c.in-Balanced.is)
    (writes_then c.put-at.ensures (writes_then (c.put_window-at.ensures.writes round windows.0) (writes_last (c.put_window.ensures.writes round windows.1))))

pub returns-in-Push-clause-writes : goal.returns-in-Push-clause-writes
returns-in-Push-clause-writes c = λ round of.
    let s = c.args.shape.now in
    let windows = subst (λ (t : RawTerms). AreTermWindows s round t) c.in-Push.is of in
    subst (λ (t : RawTerms). Appends c.args.out.now c.args.at (concat (term_pieces s round (plain_terms t))) c.put_u8.new.out c.put_u8.result) (sym c.in-Push.is)
    (writes_then (c.put_window-at-in-Push.ensures.writes round windows.0) (writes_then (c.put_window-at-in-Push-2.ensures.writes round windows.1) (writes_then (c.put_window-at-in-Push-3.ensures.writes round windows.2) (writes_then (c.put_window-at-in-Push-4.ensures.writes round windows.3) (writes_last c.put_u8.ensures.writes)))))
