use Rattle.std.proofs.Common.{◌∙◌, sym, arith, true≢false}
use Rattle.bar_lms.proofs.HssLemmas.{hss_few}
use Rattle.bar_hss.proofs.Formed.{by_numbers, ill_long, refused, refused_steps}
use Rattle.bar_hss.proofs.acceptance.accepts_by.Goals as goal

pub returns-then-not-have_lengths-clause-exact : goal.returns-then-not-have_lengths-clause-exact
returns-then-not-have_lengths-clause-exact g c =
    refused c.args.top c.args.low c.args.key.now c.args.message.now c.args.sig.now
    (ill_long c.args.top c.args.low c.args.key.now c.args.sig.now (λ both. true≢false (sym (c.have_lengths.ensures.1 both) ∙ c.if-not-have_lengths.true)))

pub returns-then-not-have_lengths-clause-cost : goal.returns-then-not-have_lengths-clause-cost
returns-then-not-have_lengths-clause-cost g c =
    let none =
    refused_steps c.args.top c.args.low c.args.key.now c.args.message.now c.args.sig.now
    (ill_long c.args.top c.args.low c.args.key.now c.args.sig.now (λ both. true≢false (sym (c.have_lengths.ensures.1 both) ∙ c.if-not-have_lengths.true))) in
    omega (arith, none)

pub returns-then-not-have_lengths-clause-bound : goal.returns-then-not-have_lengths-clause-bound
returns-then-not-have_lengths-clause-bound g c = hss_few c.args.top c.args.low c.args.key.now c.args.message.now c.args.sig.now

pub returns-then-not-have_numbers-clause-exact : goal.returns-then-not-have_numbers-clause-exact
returns-then-not-have_numbers-clause-exact g c =
    refused c.args.top c.args.low c.args.key.now c.args.message.now c.args.sig.now
    (by_numbers c.args.top c.args.low c.args.key.now c.args.sig.now c.have_numbers.result (c.have_lengths.ensures.0 c.if-not-have_lengths.false) c.have_numbers.ensures
    ∙ c.if-not-have_numbers.true)

pub returns-then-not-have_numbers-clause-cost : goal.returns-then-not-have_numbers-clause-cost
returns-then-not-have_numbers-clause-cost g c =
    let none =
    refused_steps c.args.top c.args.low c.args.key.now c.args.message.now c.args.sig.now
    (by_numbers c.args.top c.args.low c.args.key.now c.args.sig.now c.have_numbers.result (c.have_lengths.ensures.0 c.if-not-have_lengths.false) c.have_numbers.ensures
    ∙ c.if-not-have_numbers.true) in
    omega (arith, none)

pub returns-then-not-have_numbers-clause-bound : goal.returns-then-not-have_numbers-clause-bound
returns-then-not-have_numbers-clause-bound g c = hss_few c.args.top c.args.low c.args.key.now c.args.message.now c.args.sig.now

pub accepts_formed-requires-clause-formed : goal.accepts_formed-requires-clause-formed
accepts_formed-requires-clause-formed g c =
    by_numbers c.args.top c.args.low c.args.key.now c.args.sig.now c.have_numbers.result (c.have_lengths.ensures.0 c.if-not-have_lengths.false) c.have_numbers.ensures
    ∙ c.if-not-have_numbers.false

pub returns-clause-bound : goal.returns-clause-bound
returns-clause-bound g c = hss_few c.args.top c.args.low c.args.key.now c.args.message.now c.args.sig.now
