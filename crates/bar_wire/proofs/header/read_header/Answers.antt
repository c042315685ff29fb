use Rattle.std.proofs.Common.{◌≡◌, ◌++◌, ◌∷◌, ◌∙◌, sym, ap, take, drop, List, ℕ, arith}
use Rattle.std.specs.Prelude.{slice_index, Some}
use Rattle.std.proofs.lemmas.Grind.{common_steps}
use Rattle.std.proofs.lemmas.Bool.{false≢true}
use Rattle.bar_wire.specs.Kinds.{kind_at, code_of}
use Rattle.bar_wire.specs.Faults.{IsOurs}
use Rattle.bar_bytes.specs.Bytes.{u16_bytes}
use Rattle.bar_wire.proofs.Head.{four_first, rest_is, session_at, three_joined}
use Rattle.bar_wire.proofs.header.read_header.Goals as goal

pub returns-then-not-is_id : goal.returns-then-not-is_id
returns-then-not-is_id c =
    let id = c.split_array.result.0.now in
    let session : take 8 (drop 4 c.args.bytes.now) ≡ id = session_at c.args.bytes.now id c.split_array.result.1.now c.split_array.ensures.is c.split_array.ensures.front in
    let ours : IsOurs c.args.shape.now c.args.bytes.now = grind (arith, common_steps) in
    let known : kind_at (slice_index c.args.bytes.now 3) ≡ Some c.in-Some.kind = grind (arith, common_steps) in
    (ours, (c.in-Some.kind, known), λ e. false≢true (sym c.if-not-is_id.true ∙ c.is_id.ensures.1 (sym session ∙ e)))

pub returns : goal.returns
returns c =
    let bytes = c.args.bytes.now in
    let id = c.split_array.result.0.now in
    let from = c.split_u16-from.result in
    let to = c.split_u16-to.result in
    let session : take 8 (drop 4 bytes) ≡ id = session_at bytes id c.split_array.result.1.now c.split_array.ensures.is c.split_array.ensures.front in
    let ours : IsOurs c.args.shape.now bytes = grind (arith, common_steps) in
    let known : kind_at (slice_index bytes 3) ≡ Some c.in-Some.kind = grind (arith, common_steps) in
    let id_is : id ≡ c.args.shape.now.id = c.is_id.ensures.0 c.if-not-is_id.false in
    let code : slice_index bytes 3 ≡ code_of c.in-Some.kind = grind (arith, c.in-Some.ensures.code) in
    let rest : drop 4 bytes ≡ c.args.shape.now.id ++ (u16_bytes from.0 ++ (u16_bytes to.0 ++ to.1.now)) = sym (rest_is bytes) ∙ c.split_array.ensures.is ∙ λ i. id_is i ++ ((c.split_u16-from.ensures.is ∙ ap (λ (x : List ℕ). u16_bytes from.0 ++ x) c.split_u16-to.ensures.is) i) in
    let zero : slice_index bytes 0 ≡ 0xba = grind arith in
    let one : slice_index bytes 1 ≡ 0x47 = grind arith in
    let two : slice_index bytes 2 ≡ c.args.shape.now.version = grind arith in
    record {
      has = record { ours = ours; kind_is = known; session_is = session ∙ id_is };
      from_fits = omega arith;
      to_fits = omega arith;
      is = four_first bytes (omega arith) ∙ (λ i. zero i ∷ one i ∷ two i ∷ code i ∷ rest i) ∙ ap (λ (x : List ℕ). 0xba ∷ 0x47 ∷ c.args.shape.now.version ∷ code_of c.in-Some.kind ∷ x) (three_joined c.args.shape.now.id (u16_bytes from.0) (u16_bytes to.0) to.1.now);
    }
