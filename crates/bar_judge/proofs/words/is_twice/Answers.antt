use Rattle.std.proofs.Common.{◌≡◌, ◌∙◌, ◌↔◌, Bool, true, false, not, Some, IsNone, refl, sym, arith}
use Rattle.std.proofs.lemmas.Bool.Decides.{nat_tests}
use Rattle.std.specs.Str.{bytes_eq}
use Rattle.bar_seal.specs.Identities.{identity}
use Rattle.bar_seal.specs.declared.identities.Identity.{Identity}
use Rattle.bar_wire.specs.Datagram.{Message, identity_of, is_signed}
use Rattle.bar_wire.specs.Code.Views.{datagram}
use Rattle.bar_rules.specs.Values.{message_bytes}
use Rattle.bar_judge.proofs.Messages.{apart}
use Rattle.bar_judge.proofs.words.is_twice.Goals as goal

signed : (a : Identity) (b : Bool) → (IsNone (Some a) ↔ (b ≡ false)) → b ≡ true
signed a true h = refl
signed a false h = let none : IsNone (Some a) = h.1 refl in absurd (cc)

pub returns-else-eq : goal.returns-else-eq
returns-else-eq c s one two =
    let m : Message = (datagram s.shape c.args.m.now).message in
    let n : Message = (datagram s.shape c.args.n.now).message in
    let a = c.in-Some-Some.one in
    let b = c.in-Some-Some.two in
    apart (identity_of m) (identity_of n) c.eq.result (not (bytes_eq (message_bytes s m) (message_bytes s n)))
    (λ same.
    let sm = signed a (is_signed m.body) c.in-Some-Some.ensures.unsigned in
    let sn = signed b (is_signed n.body) c.in-Some-Some.ensures'.unsigned in
    let ids : identity m ≡ identity n = (c.identities_name_messages.ensures m n sm sn).1 same in
    let both : Some a ≡ Some b =
    sym c.in-Some-Some.is-0 ∙ c.identity.ensures.identity ∙ ids ∙ sym c.identity-2.ensures.identity ∙ c.in-Some-Some.is-1
    in
    let one : a ≡ b = cc in
    let no = rw one at (sym c.eq.ensures ∙ c.if-eq.false) in
    absurd (grind (arith, nat_tests, no)))
    c.if-eq.false
