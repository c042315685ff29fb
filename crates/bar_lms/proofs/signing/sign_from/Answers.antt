use Rattle.std.proofs.Common.{rules, ◌≡◌, ◌+◌, ◌*◌, ◌++◌, length, take, arith, refl, ◌∙◌}
use Rattle.std.specs.Int.{w32, to_be_bytes}
use Rattle.bar_lms.specs.Params.{levels, chains, ots_type, lms_type}
use Rattle.bar_lms.specs.Chains.{joined, message_hash}
use Rattle.bar_lms.specs.Signature.{signature, signed_value, sibling_at}
use Rattle.bar_lms.proofs.Accepted.{signature_accepted}
use Rattle.bar_lms.proofs.ListLemmas.{then_written, later}
use Rattle.bar_lms.proofs.signing.sign_from.Goals as goal

pub returns-clause-value : goal.returns-clause-value
unfolding signature
returns-clause-value g c =
    let t = c.args.key.now in
    let ots = t.params.ots in
    let height = t.params.height in
    let q = to_be_bytes w32 c.args.q in
    let ots_number = to_be_bytes w32 (ots_type ots) in
    let values = joined (signed_value t c.args.q (message_hash t.ident c.args.q c.args.randomizer.now c.args.message.now)) (chains ots) in
    let lms_number = to_be_bytes w32 (lms_type height) in
    let path = joined (sibling_at t c.args.q) (levels height) in
    let w1 : take 4 c.put_number.new.out ≡ q = c.put_number.ensures.grown in
    let w2 : take 8 c.put_number-2.new.out ≡ q ++ ots_number =
    then_written c.put_number.new.out c.put_number-2.new.out q ots_number 4 8 4 8 w1 (rw c.number.ensures at c.put_number-2.ensures.grown) refl refl
    in
    let w3 : take 40 c.put_hash.new.out ≡ q ++ ots_number ++ c.args.randomizer.now =
    then_written c.put_number-2.new.out c.put_hash.new.out (q ++ ots_number) c.args.randomizer.now 8 40 8 40 w2 c.put_hash.ensures.grown refl refl
    in
    let w4 : take (40 + 32 * chains ots) c.put_values_by.new.out ≡ q ++ ots_number ++ c.args.randomizer.now ++ values =
    then_written c.put_hash.new.out c.put_values_by.new.out (q ++ ots_number ++ c.args.randomizer.now) values 40 (40 + 32 * chains ots) 40 _ w3
    (rw c.message_hash-hash.ensures.value at c.put_values_by.ensures.grown) refl refl
    in
    let w5 : take (44 + 32 * chains ots) c.put_number-3.new.out ≡ q ++ ots_number ++ c.args.randomizer.now ++ values ++ lms_number =
    then_written c.put_values_by.new.out c.put_number-3.new.out (q ++ ots_number ++ c.args.randomizer.now ++ values) lms_number
    (40 + 32 * chains ots) (40 + 32 * c.chains.result + 4) (40 + 32 * c.chains.result) (44 + 32 * chains ots) w4
    (rw c.number-2.ensures at c.put_number-3.ensures.grown) (rw c.chains.ensures refl) (rw c.chains.ensures (omega arith))
    in
    then_written c.put_number-3.new.out c.put_path.new.out (q ++ ots_number ++ c.args.randomizer.now ++ values ++ lms_number) path
    (44 + 32 * chains ots) (40 + 32 * c.chains.result + 4 + 32 * levels height) (40 + 32 * c.chains.result + 4) c.sig_len.result w5
    c.put_path.ensures.grown (rw c.chains.ensures (omega arith)) (rw (c.chains.ensures, c.sig_len.ensures) (omega arith))

pub returns-clause-rest : goal.returns-clause-rest
returns-clause-rest g c =
    let ots = c.args.key.now.params.ots in
    let height = c.args.key.now.params.height in
    let end = c.sig_len.result in
    let n : c.sig_len.result ≡ 44 + 32 * chains ots + 32 * levels height = rw c.sig_len.ensures (omega arith) in
    let k : c.chains.result ≡ chains ots = c.chains.ensures in
    later c.put_number-3.new.out c.put_path.new.out (40 + 32 * c.chains.result + 4 + 32 * levels height) end c.put_path.ensures.rest (omega arith)
    ∙ (later c.put_values_by.new.out c.put_number-3.new.out (40 + 32 * c.chains.result + 4) end c.put_number-3.ensures.rest (omega arith)
    ∙ (later c.put_hash.new.out c.put_values_by.new.out (40 + 32 * chains ots) end c.put_values_by.ensures.rest (omega arith)
    ∙ (later c.put_number-2.new.out c.put_hash.new.out 40 end c.put_hash.ensures.rest (omega arith)
    ∙ (later c.put_number.new.out c.put_number-2.new.out 8 end c.put_number-2.ensures.rest (omega arith)
    ∙ later c.args.out.now c.put_number.new.out 4 end c.put_number.ensures.rest (omega arith)))))

pub returns-clause-accepted : goal.returns-clause-accepted
returns-clause-accepted g c =
    let long : length c.args.randomizer.now ≡ 32 = search rules in
    rw (returns-clause-value g c)
    (signature_accepted c.args.key.now c.args.q c.args.randomizer.now c.args.message.now c.requires.leaf long)
