use Rattle.std.proofs.Common.{◌≡◌, ◌∙◌, sym, ◌∷◌, [], ap, length, arith, ℕ, suc, List}
use Rattle.std.specs.Prelude.{slice_index}
use Rattle.bar_wire.specs.Evidence.{evidence_len}
use Rattle.std.proofs.lemmas.Bool.{false≢true}
use Rattle.bar_wire.specs.Places.{entries_len}
use Rattle.bar_wire.specs.Places.{entries}
use Rattle.bar_wire.proofs.Lists.{IsBytes, IsBytes-append}
use Rattle.bar_wire.proofs.Steps.{length_entries}
use Rattle.bar_wire.proofs.EvidenceReads.{room_for_one, split_is, no_evidence}
use Rattle.bar_wire.proofs.evidence.read_evidence.Goals as goal

pub split_entry-requires : goal.split_entry-requires
split_entry-requires c =
    let count = c.split_u8-count.result.0 in
    let rest = c.split_u8-count.result.1.now in
    let whole = c.has_entries.ensures.0 c.if-not-has_entries.false in
    let range = c.are_datagrams_in_range.ensures.0 c.if-not-are_datagrams_in_range.false in
    room_for_one count rest (omega (arith, range.0, length_entries count rest)) whole

pub returns-then-count-eq1 : goal.returns-then-count-eq1
returns-then-count-eq1 c =
    let count = c.split_u8-count.result.0 in
    let rest = c.split_u8-count.result.1.now in
    let whole = c.has_entries.ensures.0 c.if-not-has_entries.false in
    let range = c.are_datagrams_in_range.ensures.0 c.if-not-are_datagrams_in_range.false in
    let fits : IsBytes (count ∷ rest) = λ i. omega (arith, ap (λ (x : List ℕ). slice_index x i) c.split_u8-count.ensures.is, c.type_inv.bytes i) in
    let one : count ≡ suc 0 = omega arith in
    split_is c.args.bytes.now rest count (c.split_entry.result.0.now ∷ []) c.split_u8-count.ensures.is (IsBytes-append (count ∷ []) rest fits) whole range (ap (λ n. entries n rest) one ∙ c.split_entry.ensures.first 0)

pub split_entry-requires-2 : goal.split_entry-requires-2
split_entry-requires-2 c =
    let count = c.split_u8-count.result.0 in
    let rest = c.split_u8-count.result.1.now in
    let whole = c.has_entries.ensures.0 c.if-not-has_entries.false in
    let range = c.are_datagrams_in_range.ensures.0 c.if-not-are_datagrams_in_range.false in
    let two : count ≡ suc 1 = omega (arith, range.0, range.1, length_entries count rest, c.if-count-eq1.false) in
    let len : length rest ≡ entries_len (suc 1) rest = whole ∙ ap (λ n. entries_len n rest) two in
    room_for_one 1 c.split_entry.result.1.now (omega arith) (omega (arith, len, c.split_entry.ensures.len 1, c.split_entry.ensures.total))

pub returns : goal.returns
returns c =
    let count = c.split_u8-count.result.0 in
    let rest = c.split_u8-count.result.1.now in
    let whole = c.has_entries.ensures.0 c.if-not-has_entries.false in
    let range = c.are_datagrams_in_range.ensures.0 c.if-not-are_datagrams_in_range.false in
    let fits : IsBytes (count ∷ rest) = λ i. omega (arith, ap (λ (x : List ℕ). slice_index x i) c.split_u8-count.ensures.is, c.type_inv.bytes i) in
    let two : count ≡ suc 1 = omega (arith, range.0, range.1, length_entries count rest, c.if-count-eq1.false) in
    let items : entries count rest ≡ c.split_entry.result.0.now ∷ c.split_entry-2.result.0.now ∷ [] = ap (λ n. entries n rest) two ∙ c.split_entry.ensures.first 1 ∙ ap (λ (x : List (List ℕ)). c.split_entry.result.0.now ∷ x) (c.split_entry-2.ensures.first 0) in
    split_is c.args.bytes.now rest count (c.split_entry.result.0.now ∷ c.split_entry-2.result.0.now ∷ []) c.split_u8-count.ensures.is (IsBytes-append (count ∷ []) rest fits) whole range items

pub returns-then-not-are_datagrams_in_range : goal.returns-then-not-are_datagrams_in_range
returns-then-not-are_datagrams_in_range c =
    let count = c.split_u8-count.result.0 in
    let rest = c.split_u8-count.result.1.now in
    let whole = c.has_entries.ensures.0 c.if-not-has_entries.false in
    let is = c.split_u8-count.ensures.is in
    (omega (arith, ap length is, whole, ap evidence_len is), no_evidence c.args.bytes.now rest count is (λ range. false≢true (sym c.if-not-are_datagrams_in_range.true ∙ c.are_datagrams_in_range.ensures.1 range)))
