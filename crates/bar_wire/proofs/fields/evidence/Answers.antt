use Rattle.std.proofs.Common.{◌≡◌, ◌∷◌, [], ◌∙◌, List, ℕ, length, drop, sym, ap, refl, arith}
use Rattle.std.specs.Prelude.{slice_index}
use Rattle.std.proofs.lemmas.List.{append-nil}
use Rattle.bar_wire.specs.Grammar.{entry}
use Rattle.bar_wire.specs.Places.{entries_len}
use Rattle.bar_wire.specs.Places.{entries}
use Rattle.std.specs.List.{flat_map}
use Rattle.bar_wire.proofs.Lists.{entries_joined, IsBytes-append, IsBytes}
use Rattle.bar_wire.proofs.fields.evidence.Goals as goal

pub returns-clause-has : goal.returns-clause-has
returns-clause-has c =
    let count = c.split_u8-count.result.0 in
    let rest = c.split_u8-count.result.1.now in
    let is : c.args.bytes.now ≡ count ∷ rest = c.split_u8-count.ensures.is in
    let fits : IsBytes (count ∷ rest) = λ i. omega (arith, ap (λ (x : List ℕ). slice_index x i) is, c.type_inv.bytes i) in
    let len : length rest ≡ entries_len count rest = omega (arith, ap length is, c.requires, ap (λ (x : List ℕ). entries_len (slice_index x 0) (drop 1 x)) is) in
    let all = entries_joined count rest (IsBytes-append (count ∷ []) rest fits) len in
    record { kind_is = refl; form = all.fit; is = is ∙ (λ i. sym all.long i ∷ (sym all.joined ∙ sym (append-nil (flat_map entry (entries count rest)))) i) }

pub returns-clause-whole : goal.returns-clause-whole
returns-clause-whole c =
    let is = c.split_u8-count.ensures.is in
    omega (arith, ap length is, c.requires, ap (λ (x : List ℕ). entries_len (slice_index x 0) (drop 1 x)) is)
