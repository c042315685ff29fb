use Rattle.std.proofs.Common.{ap, sym, ◌∙◌}
use Rattle.std.specs.Prelude.{is_some}
use Rattle.bar_terms.specs.Table.{digests_of, no_lists}
use Rattle.bar_wire.specs.Code.Views.{datagram}
use Rattle.bar_rules.specs.Judge.Verdict.{fault_of}
use Rattle.bar_judge.specs.Code.Parts.{with_second}
use Rattle.bar_proof.proofs.NeedLemmas.{open-badly}
use Rattle.bar_proof.proofs.needs.round_for.Goals as goal

pub past_round-requires : goal.past_round-requires
past_round-requires c = c.in_ok-case.ensures.aligned c.args.session.now.shape c.requires.read.one.view.body.windows

pub bad_round-requires-clause-opened : goal.bad_round-requires-clause-opened
bad_round-requires-clause-opened c =
    let s = c.args.session.now in
    let one = c.args.pair.now.one in
    let table = digests_of c.args.table.now.lists in
    (open-badly s table (datagram s.shape one) (datagram s.shape c.in-Some.two)
    (ap (λ o. fault_of s no_lists (with_second s.shape one o)) (sym c.in-Some.is) ∙ c.requires.none)
    (ap (λ o. is_some (fault_of s table (with_second s.shape one o))) (sym c.in-Some.is) ∙ c.requires.shown)).0

pub bad_round-requires-in-None-clause-opened : goal.bad_round-requires-in-None-clause-opened
bad_round-requires-in-None-clause-opened c =
    let s = c.args.session.now in
    let one = c.args.pair.now.one in
    let table = digests_of c.args.table.now.lists in
    (open-badly s table (datagram s.shape one) (datagram s.shape c.in-Some.two)
    (ap (λ o. fault_of s no_lists (with_second s.shape one o)) (sym c.in-Some.is) ∙ c.requires.none)
    (ap (λ o. is_some (fault_of s table (with_second s.shape one o))) (sym c.in-Some.is) ∙ c.requires.shown)).1
