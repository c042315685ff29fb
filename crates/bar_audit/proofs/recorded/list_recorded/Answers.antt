use Rattle.std.proofs.Common.{rules, ◌≡◌, sym, subst, filter}
use Rattle.std.proofs.lemmas.List.Kept.{IsStrictlySortedBy-filter}
use Rattle.bar_audit.specs.Code.Findings.{are_given}
use Rattle.bar_audit.proofs.Order.{rising-from}
use Rattle.bar_audit.proofs.recorded.list_recorded.Goals as goal
use Rattle.bar_rules.specs.Peer.Exchanges.{IsRising}

pub returns-clause-rising : goal.returns-clause-rising
returns-clause-rising c =
    let listed : c.loop-x.recorded.items ≡ filter (are_given c.args.parties.now.keys) c.args.exchanges.now.keys = search rules in
    subst IsRising (sym listed)
    (rising-from _ c.exchanges_are_in_order.ensures.before _
    (IsStrictlySortedBy-filter _ (are_given c.args.parties.now.keys) c.args.exchanges.now.keys
    c.into_iter-x-iterator.ensures.into_iter_gives.4))
