-- The rules of a broadcaster as a core, over a list of inputs.
use Rattle.std.specs.Prelude.{◌≡◌, ℕ, List, [], map}
use Rattle.bar_core.specs.Runs.{contents_over, sends_over}
use Rattle.bar_rules.specs.Broadcaster.Sending.{caster_sends_of}
use Rattle.bar_rules.specs.Member.{Member}
use Rattle.bar_rules.specs.Values.{datagram_bytes}
use Rattle.bar_caster.specs.Code.Core.{caster_rules}
use Rattle.bar_caster.specs.Code.StandsFor.{Inputs}

-- the rules send what the broadcaster's run sends
abbrev pub RulesSend : Type 0
RulesSend =
    (me : Member) (stream : List ℕ) (inputs : Inputs)
    → sends_over (caster_rules me stream) [] inputs
    ≡ map (λ sent. (sent.1, datagram_bytes me.session sent.2)) (caster_sends_of me stream inputs)

-- the rules play nothing
abbrev pub RulesPlay : Type 0
RulesPlay = (me : Member) (stream : List ℕ) (inputs : Inputs) → contents_over (caster_rules me stream) [] inputs ≡ []
