-- The reported totals are those of the knowledge, and a KEY was sent if and only if it was signed.
use Rattle.std.proofs.Common.{◌+◌, [], sym, subst}
use Rattle.std.specs.Prelude.{nat_le, if◌then◌else◌}
use Rattle.bar_rules.specs.Peer.Knowledge.{known, this_round}
use Rattle.bar_rules.specs.Peer.Run.{log_after}
use Rattle.bar_rules.specs.Peer.Terms.{totals_with}
use Rattle.bar_peer.specs.Code.Memory.{member_of}
use Rattle.bar_peer.specs.Code.Telling.{HasTotals, no_totals}
use Rattle.bar_peer.proofs.peer.Peer.totals.Goals as goal

pub returns : goal.returns
returns g c inputs stands =
    let who = c.args.self.now.memory.who in
    let me = member_of who in
    let log = log_after me [] inputs in
    let k = known me log in
    let x = c.args.x in
    let obedient = (c.signed_by_rule.ensures me who.is_member inputs).obedient in
    let told = c.totals.ensures k stands (c.logs_are_sound.ensures me log obedient)
    (c.what_was_said_is_written_again.ensures.obedient me log obedient) in
    subst
    (λ sent. HasTotals (if nat_le (this_round k) (x.round + me.session.shape.life) then totals_with me k x sent else no_totals) c.totals.result)
    (sym (c.balanced.ensures.said me inputs x))
    told
