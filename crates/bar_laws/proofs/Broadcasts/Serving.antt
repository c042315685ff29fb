-- Each datagram that the broadcaster sends is for a peer that isn't evicted.
use Rattle.bar_laws.specs.Broadcasting.{ServesTheOthers}
use Rattle.bar_rules.specs.Broadcaster.Party.{IsBroadcaster}
use Rattle.bar_rules.specs.Broadcaster.Sending.{caster_tick, caster_take, caster_step, caster_log_after}
use Rattle.bar_session.specs.Time.{last_tick}
use Rattle.bar_rules.specs.Member.{Member}
use Rattle.bar_rules.specs.Peer.Log.{Log, Ticked, kept, ticks}
use Rattle.bar_rules.specs.Peer.Run.{Out}
use Rattle.bar_rules.specs.Runs.{begun}
use Rattle.bar_wire.specs.Datagram.{Datagram}
use Rattle.bar_wire.specs.Inputs.{Input}
use Rattle.bar_wire.specs.Inputs as event
use Rattle.std.proofs.Common.{◌≡◌, ℕ, Bool, true, false, List, ◌∷◌, sym, ◌∙◌}
use Rattle.std.specs.Prelude.{cond, nat_le}
use Rattle.std.specs.List.{AllByRecursion}
use Rattle.bar_wire.proofs.Lists.{AllByRecursion-push}
use Rattle.bar_laws.proofs.Runs.{ticked-low}
use Rattle.bar_laws.proofs.Broadcasts.Steps.{IsKept, IsServed, tick-keeps}
use Rattle.bar_bytes.proofs.Options.{or-none}

-- nobody was evicted since a log, and what was sent is for peers that it serves
abbrev pub Serves : Member → Log → Out → Type 0
Serves me log out = ((q : ℕ) → kept out.state q ≡ kept log q) × AllByRecursion (λ (send : ℕ × Datagram). IsServed me.session log send.0) out.sends

serves-kept : (me : Member) (stream : List ℕ) (log : Log) → IsKept me stream (Serves me log)
serves-kept me stream log = record {
  sent = λ out to d s h. (h.0, AllByRecursion-push (λ (send : ℕ × Datagram). IsServed me.session log send.0) out.sends (to, d) h.1 (s.0, sym (h.0 to) ∙ s.1));
  said = λ out d s n h. (λ q. or-none (kept out.state q) ∙ h.0 q, h.1);
}

pub tick-serves : (me : Member) (stream : List ℕ) (log : Log) → IsBroadcaster me → Serves me log (caster_tick me stream (begun (Ticked ∷ log)))
tick-serves me stream log is = tick-keeps me stream (Serves me log) (serves-kept me stream log) is (begun (Ticked ∷ log)) (ticked-low log) (λ q. or-none (kept log q), tt)

step-serves : (me : Member) (stream : List ℕ) (log : Log) (i : Input) → IsBroadcaster me → AllByRecursion (λ (send : ℕ × Datagram). IsServed me.session log send.0) (caster_step me stream log i).sends
unfolding caster_step
step-serves me stream log i is = go (nat_le (last_tick me.session) (ticks log)) i
  where
    go : (b : Bool) (i : Input) → AllByRecursion (λ (send : ℕ × Datagram). IsServed me.session log send.0) (cond b (begun log) (caster_take me stream log i)).sends
    go true i = tt
    go false event.Tick = (tick-serves me stream log is).1
    go false (event.Datagram bytes) = tt

pub serves-the-others : ServesTheOthers
serves-the-others me stream is inputs input = step-serves me stream (caster_log_after me stream inputs) input is
