use Rattle.std.proofs.Common.{◌≡◌, ℕ, List, [], ◌∷◌, ◌++◌, refl}
use Rattle.bar_core.specs.Runs.{contents_over}
use Rattle.bar_core.proofs.Stepwise.{sends-stepwise}
use Rattle.bar_rules.specs.Broadcaster.Sending.{caster_log_after, caster_step}
use Rattle.bar_rules.specs.Member.{Member}
use Rattle.bar_rules.specs.Runs.{sends_from}
use Rattle.bar_rules.specs.Values.{datagram_bytes}
use Rattle.bar_caster.specs.Code.Core.{caster_rules}
use Rattle.bar_caster.specs.Code.StandsFor.{Inputs}
use Rattle.bar_caster.proofs.Stepped.{log_more}
use Rattle.bar_caster.proofs.runs.rules_give_the_run.Goals as goal

pub returns-clause-sends : goal.returns-clause-sends
returns-clause-sends c me stream inputs =
    sends-stepwise (caster_rules me stream) (caster_log_after me stream) (λ log input. (caster_step me stream log input).state)
    (log_more me stream)
    (λ log input. (caster_step me stream log input).sends)
    (λ send. (send.0, datagram_bytes me.session send.1))
    (λ n send. (n, send.0, send.1))
    (λ sent. (sent.1, datagram_bytes me.session sent.2))
    (sends_from (caster_step me stream))
    (λ before input. refl)
    (λ n send. refl)
    (λ log n. refl)
    (λ log n input inputs. refl)
    []
    1
    inputs

silent : (me : Member) (stream : List ℕ) (before inputs : Inputs) → contents_over (caster_rules me stream) before inputs ≡ []
silent me stream before [] = refl
silent me stream before (input ∷ inputs) = silent me stream (before ++ input ∷ []) inputs

pub returns-clause-contents : goal.returns-clause-contents
returns-clause-contents c me stream inputs = silent me stream [] inputs
