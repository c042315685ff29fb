use Rattle.std.proofs.Common.{◌≡◌, ◌∙◌, false, refl, sym, subst}
use Rattle.std.proofs.lemmas.Bool.{false≢true}
use Rattle.bar_ledger.specs.Code.Totals.{AreSound}
use Rattle.bar_rules.specs.Peer.Exchanges.{role_of}
use Rattle.bar_rules.specs.Peer.Knowledge.{has_said_of}
use Rattle.bar_wire.specs.declared.kind.Kind.TheVariants.{Case}
use Rattle.bar_peer.specs.Code.Memory.{member_of}
use Rattle.bar_peer.proofs.Giving.Totals.{found, no_case_said, said_soundly, none_told, kept_told}
use Rattle.bar_peer.proofs.memory.Memory.totals.Goals.{then-not-entry-via-then-not-entry, then-not-entry-via-else-not-entry+then-not-are_sound}
use Rattle.bar_peer.proofs.memory.Memory.totals.Goals as goal

pub returns-then-not-entry : goal.returns-then-not-entry
returns-then-not-entry c k h sound rewritten =
    let me = member_of c.args.self.now.who in
    let l = c.args.self.now.ledger in
    let x = c.args.x in
    let e = c.in-Some.entry.now in
    let f = found me k l x e h.ledger c.in-Some.ensures.entry c.find.ensures.own in
    let unsaid : has_said_of k Case x (role_of me x) ≡ false =
    elim c.then-not-entry.branch [
      | then-not-entry-via-then-not-entry w ↦ no_case_said me k l x e h.ledger f w.if-not-entry.true
      | then-not-entry-via-else-not-entry+then-not-are_sound w ↦ let can : AreSound w.cap.result e.terms =
          subst (λ n. AreSound n e.terms) (sym w.cap.ensures)
          (said_soundly me k l x e h.ledger sound rewritten f w.if-not-entry.false)
          in absurd (false≢true (sym w.if-not-are_sound.true ∙ w.are_sound.ensures.complete can))
    ]
    in
    none_told me k x (record { promised = 0; received = 0; opened = 0 }) sound (λ recent. unsaid) refl

pub returns : goal.returns
returns c k h sound rewritten =
    let me = member_of c.args.self.now.who in
    let l = c.args.self.now.ledger in
    let x = c.args.x in
    let e = c.in-Some.entry.now in
    let f = found me k l x e h.ledger c.in-Some.ensures.entry c.find.ensures.own in
    kept_told me k l x e c.totals.result h.ledger sound rewritten f c.if-not-entry.false c.totals.ensures
