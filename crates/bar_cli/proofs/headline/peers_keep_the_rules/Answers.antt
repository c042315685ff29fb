use Rattle.bar_cli.proofs.MemberLemmas.{keeps-rules}
use Rattle.bar_cli.proofs.headline.peers_keep_the_rules.Goals as goal

pub returns : goal.returns
returns c =
    keeps-rules c.signed_by_rule.ensures c.balanced.ensures.opened c.balanced.ensures.partners c.bad_keys_leave_evidence.ensures
    c.kept_evidence_is_shown.ensures c.no_framing.ensures c.leaf_discipline.ensures c.who_owes_is_not_served.ensures
    c.briefcases_are_said_again.ensures c.manifests_are_said_again.ensures.late
