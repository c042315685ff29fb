-- The broadcaster's log grows.
use Rattle.std.proofs.Common.{ℕ, Bool, true, false, List, [], ◌∷◌, refl, ap, cond}
use Rattle.std.specs.Prelude.{nat_le}
use Rattle.bar_session.specs.Time.{last_tick}
use Rattle.bar_wire.specs.Inputs.{Input}
use Rattle.bar_wire.specs.Inputs as event
use Rattle.bar_rules.specs.Broadcaster.Party.{IsBroadcaster}
use Rattle.bar_rules.specs.Broadcaster.Sending.{caster_step, caster_take}
use Rattle.bar_rules.specs.Member.{Member}
use Rattle.bar_rules.specs.Peer.Log.{Log, Kept, Said, Ticked, ticks}
use Rattle.bar_rules.specs.Runs.{begun}
use Rattle.bar_rules.specs.Values.{datagram_of}
use Rattle.bar_laws.specs.Growing.{IsLater}
use Rattle.bar_laws.proofs.Logs.{later-same}
use Rattle.bar_laws.proofs.Runs.{ticked-low}
use Rattle.bar_laws.proofs.Broadcasts.Steps.{IsKept, judged-keeps, tick-keeps}

later-kept : (me : Member) (stream : List ℕ) (log : Log) → IsKept me stream (λ out. IsLater out.state log)
later-kept me stream log = record {
  sent = λ out to d s h. h;
  said = λ out d may new h. record { new = Said d ∷ h.new; split = ap (λ (l : Log). Said d ∷ l) h.split };
}

pub caster-grows : (me : Member) (stream : List ℕ) (log : Log) (i : Input) → IsBroadcaster me → IsLater (caster_step me stream log i).state log
unfolding caster_step
caster-grows me stream log i is = go (nat_le (last_tick me.session) (ticks log)) i
  where
    go : (b : Bool) (i : Input) → IsLater (cond b (begun log) (caster_take me stream log i)).state log
    go true i = later-same log
    go false event.Tick =
        tick-keeps me stream (λ out. IsLater out.state log) (later-kept me stream log) is (begun (Ticked ∷ log)) (ticked-low log) (record { new = Ticked ∷ []; split = refl })
    go false (event.Datagram bytes) =
        judged-keeps (λ l. IsLater l log) me stream log (datagram_of me.session bytes) (later-same log) (λ q evidence. record { new = Kept q evidence ∷ []; split = refl })
