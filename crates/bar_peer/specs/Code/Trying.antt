-- The parts of admission and of the search for evidence that don't depend on the signature.
use Rattle.std.specs.Prelude.{◌+◌, ◌==◌, ◌&&◌, not, Bool, is_some, nat_le}
use Rattle.bar_wire.specs.Bodies.{is_peer_kind}
use Rattle.bar_wire.specs.Datagram.{Datagram, round_of}
use Rattle.bar_rules.specs.Member.{Member}
use Rattle.bar_rules.specs.Peer.Admission.{is_for, is_heard_again, is_row_met}
use Rattle.bar_rules.specs.Peer.Knowledge.{Knowledge, this_round}

-- whether a datagram is admitted, if its signature is accepted
abbrev pub may_admit : Member → Knowledge → Datagram → Bool
may_admit me k d =
    is_for me d.message
    && not (k.is_announced d.message.from)
    && not (is_heard_again k d.message)
    && is_row_met me k d.message.from d.message.to d.message.body

-- whether a datagram is searched for evidence, if its signature is accepted
abbrev pub may_show : Member → Knowledge → Datagram → Bool
may_show me k d =
    is_peer_kind d.message.body
    && (d.message.to == me.party)
    && not (k.is_announced d.message.from)
    && not (is_some (k.evidence d.message.from))
    && nat_le (this_round k) (round_of d.message.body + me.session.shape.life)
