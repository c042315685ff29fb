-- The rules of a peer as a core, over a list of inputs.
use Rattle.std.specs.Prelude.{◌≡◌, [], map}
use Rattle.std.specs.List.{concat}
use Rattle.bar_core.specs.Runs.{contents_over, sends_over}
use Rattle.bar_rules.specs.Member.{Member}
use Rattle.bar_rules.specs.Peer.Run.{played_by, sends_of}
use Rattle.bar_rules.specs.Values.{datagram_bytes}
use Rattle.bar_peer.specs.Core.{peer_rules}
use Rattle.bar_peer.specs.Code.StandsFor.{Inputs}

-- the rules send what the peer's run sends
abbrev pub RulesSend : Type 0
RulesSend =
    (me : Member) (inputs : Inputs)
    → sends_over (peer_rules me) [] inputs ≡ map (λ sent. (sent.1, datagram_bytes me.session sent.2)) (sends_of me inputs)

-- the rules play what the peer's run plays
abbrev pub RulesPlay : Type 0
RulesPlay = (me : Member) (inputs : Inputs) → concat (contents_over (peer_rules me) [] inputs) ≡ played_by me inputs
