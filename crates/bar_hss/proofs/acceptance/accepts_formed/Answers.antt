use Rattle.std.proofs.Common.{◌≡◌, ◌∙◌, ◌+◌, sym, arith, refl, true, false, drop}
use Rattle.bar_lms.specs.Acceptance.{is_accepted_under, steps_taken_under}
use Rattle.bar_lms.specs.Hss.{hss_steps_taken, key_part, lower_part, upper_part}
use Rattle.bar_hss.proofs.Formed.{by_both, by_both_steps}
use Rattle.bar_hss.proofs.acceptance.accepts_formed.Goals as goal

pub returns-then-not-accepts-clause-exact : goal.returns-then-not-accepts-clause-exact
returns-then-not-accepts-clause-exact g c =
    let sig = c.args.sig.now in
    let top = c.args.top in
    let upper : is_accepted_under top (drop 4 c.args.key.now) (key_part top sig) (upper_part top sig) ≡ false =
    sym (c.accepts.ensures.exact ∙ (λ i. is_accepted_under (c.new.ensures i) (c.behind_number.ensures i) (c.key_part-lower_key.ensures i) (c.upper_part-upper.ensures i)))
    ∙ c.if-not-accepts.true
    in
    sym (by_both top c.args.low c.args.key.now c.args.message.now sig c.requires.formed ∙ (rw upper refl))

pub returns-then-not-accepts-clause-cost : goal.returns-then-not-accepts-clause-cost
returns-then-not-accepts-clause-cost g c =
    let sig = c.args.sig.now in
    let top = c.args.top in
    let upper : is_accepted_under top (drop 4 c.args.key.now) (key_part top sig) (upper_part top sig) ≡ false =
    sym (c.accepts.ensures.exact ∙ (λ i. is_accepted_under (c.new.ensures i) (c.behind_number.ensures i) (c.key_part-lower_key.ensures i) (c.upper_part-upper.ensures i)))
    ∙ c.if-not-accepts.true
    in
    let same : steps_taken_under c.new.result.params c.behind_number.result.now c.key_part-lower_key.result.now c.upper_part-upper.result.now
    ≡ steps_taken_under top (drop 4 c.args.key.now) (key_part top sig) (upper_part top sig)
    = λ i. steps_taken_under (c.new.ensures i) (c.behind_number.ensures i) (c.key_part-lower_key.ensures i) (c.upper_part-upper.ensures i) in
    let taken : hss_steps_taken top c.args.low c.args.key.now c.args.message.now sig ≡ steps_taken_under top (drop 4 c.args.key.now) (key_part top sig) (upper_part top sig)
    = by_both_steps top c.args.low c.args.key.now c.args.message.now sig c.requires.formed ∙ (rw upper (omega arith)) in
    omega (arith, c.accepts.ensures.cost, same, taken)

pub returns-clause-exact : goal.returns-clause-exact
returns-clause-exact g c =
    let sig = c.args.sig.now in
    let top = c.args.top in
    let upper : is_accepted_under top (drop 4 c.args.key.now) (key_part top sig) (upper_part top sig) ≡ true =
    sym (c.accepts.ensures.exact ∙ (λ i. is_accepted_under (c.new.ensures i) (c.behind_number.ensures i) (c.key_part-lower_key.ensures i) (c.upper_part-upper.ensures i)))
    ∙ c.if-not-accepts.false
    in
    let lower = c.accepts-2.ensures.exact ∙ (λ i. is_accepted_under (c.new-2.ensures i) (c.key_part-lower_key.ensures i) c.args.message.now (c.lower_part-lower.ensures i)) in
    lower ∙ sym (by_both top c.args.low c.args.key.now c.args.message.now sig c.requires.formed ∙ (rw upper refl))

pub returns-clause-cost : goal.returns-clause-cost
returns-clause-cost g c =
    let sig = c.args.sig.now in
    let top = c.args.top in
    let low = c.args.low in
    let upper : is_accepted_under top (drop 4 c.args.key.now) (key_part top sig) (upper_part top sig) ≡ true =
    sym (c.accepts.ensures.exact ∙ (λ i. is_accepted_under (c.new.ensures i) (c.behind_number.ensures i) (c.key_part-lower_key.ensures i) (c.upper_part-upper.ensures i)))
    ∙ c.if-not-accepts.false
    in
    let same : steps_taken_under c.new.result.params c.behind_number.result.now c.key_part-lower_key.result.now c.upper_part-upper.result.now
    ≡ steps_taken_under top (drop 4 c.args.key.now) (key_part top sig) (upper_part top sig)
    = λ i. steps_taken_under (c.new.ensures i) (c.behind_number.ensures i) (c.key_part-lower_key.ensures i) (c.upper_part-upper.ensures i) in
    let below : steps_taken_under c.new-2.result.params c.key_part-lower_key.result.now c.args.message.now c.lower_part-lower.result.now
    ≡ steps_taken_under low (key_part top sig) c.args.message.now (lower_part top sig)
    = λ i. steps_taken_under (c.new-2.ensures i) (c.key_part-lower_key.ensures i) c.args.message.now (c.lower_part-lower.ensures i) in
    let taken : hss_steps_taken top low c.args.key.now c.args.message.now sig
    ≡ steps_taken_under top (drop 4 c.args.key.now) (key_part top sig) (upper_part top sig) + steps_taken_under low (key_part top sig) c.args.message.now (lower_part top sig)
    = by_both_steps top low c.args.key.now c.args.message.now sig c.requires.formed ∙ (rw upper refl) in
    omega (arith, c.accepts.ensures.cost, c.accepts-2.ensures.cost, same, below, taken)
