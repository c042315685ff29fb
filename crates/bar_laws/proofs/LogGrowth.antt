-- Logs grow: those of a peer, of the broadcaster, and of the parties of a world.
use Rattle.std.proofs.Common.{◌≡◌, ◌∙◌, ℕ, Bool, true, false, List, [], ◌∷◌, refl, sym, subst, cond, eqb}
use Rattle.std.specs.Prelude.{Option, Some, None, slice_get, slice_set}
use Rattle.std.proofs.lemmas.Bool.{eqb-true}
use Rattle.bar_wire.specs.Inputs.{Input}
use Rattle.bar_wire.specs.Inputs as event
use Rattle.bar_rules.specs.Broadcaster.Sending.{caster_step}
use Rattle.bar_rules.specs.Member.{Member}
use Rattle.bar_rules.specs.Peer.Log.{Log}
use Rattle.bar_rules.specs.Peer.Run.{step}
use Rattle.bar_rules.specs.World.World.{Deliver, Hostile, IsSetup, Move, Setup, TickOf, World, delivered, happens, initial, member, party_step, run, takes, takes_by}
use Rattle.bar_laws.specs.Growing.{CastersGrow, HasGrown, IsLater, PartiesGrow, PeersGrow}
use Rattle.bar_laws.proofs.Broadcasts.{caster-grows}
use Rattle.bar_laws.proofs.Logs.{join-later, later-same, some-equal}
use Rattle.bar_laws.proofs.Runs.{step-adds}
use Rattle.bar_laws.proofs.Worlds.{cast-caster, run-on, set-other, set-same}

-- ---- one party

pub step-grows : (me : Member) (log : Log) (i : Input) → IsLater (step me log i).state log
step-grows me log i = let a = step-adds me log i in record { new = a.new; split = a.split }

pub peers-grow : PeersGrow
peers-grow me log [] = later-same log
peers-grow me log (i ∷ is) = join-later _ (step me log i).state log (peers-grow me (step me log i).state is) (step-grows me log i)

pub casters-grow : CastersGrow
casters-grow me stream log [] is = later-same log
casters-grow me stream log (i ∷ inputs) is =
    join-later _ (caster_step me stream log i).state log (casters-grow me stream (caster_step me stream log i).state inputs is) (caster-grows me stream log i is)

-- ---- the parties of a world

party-grows : (setup : Setup) (p : ℕ) (log : Log) (i : Input) → IsSetup setup → IsLater (party_step setup p log i).state log
party-grows setup p log i is = go (eqb p 0)
  where
    go : (b : Bool) → IsLater (cond b (caster_step (member setup 0) setup.stream log i) (step (member setup p) log i)).state log
    go true = caster-grows (member setup 0) setup.stream log i (cast-caster setup is)
    go false = step-grows (member setup p) log i

module _ (setup : Setup) (is : IsSetup setup) (p : ℕ) where
  takes-grown : (w : World) (q : ℕ) (i : Input) (log : Log) → slice_get w.logs p ≡ Some log → HasGrown (takes setup w q i) p log
  takes-grown w q i log at = go (slice_get w.logs q) refl
    where
      go : (o : Option Log) → slice_get w.logs q ≡ o → HasGrown (takes_by setup w q i o) p log
      go None e = record { log = log; log_is = at; later = later-same log }
      go (Some l) e = own (eqb q p) refl
        where
          now : Log
          now = (party_step setup q l i).state

          own : (b : Bool) → eqb q p ≡ b → HasGrown (takes_by setup w q i (Some l)) p log
          own true f =
              let same : q ≡ p = eqb-true q p f in
              let was : l ≡ log = some-equal l log (sym e ∙ subst (λ z. slice_get w.logs z ≡ Some log) (sym same) at) in
              record {
                log = now;
                log_is = subst (λ z. slice_get (slice_set w.logs q now) z ≡ Some now) same (set-same w.logs q l now e);
                later = subst (IsLater now) was (party-grows setup q l i is);
              }
          own false f = record { log = log; log_is = set-other w.logs q p now f ∙ at; later = later-same log }

  happens-grown : (w : World) (m : Move) (log : Log) → slice_get w.logs p ≡ Some log → HasGrown (happens setup w m) p log
  happens-grown w (TickOf q) log at = takes-grown w q event.Tick log at
  happens-grown w (Hostile q bytes) log at = takes-grown w q (event.Datagram bytes) log at
  happens-grown w (Deliver n) log at = go (slice_get w.packets n)
    where
      go : (o : Option (ℕ × List ℕ)) → HasGrown (delivered setup w o) p log
      go None = record { log = log; log_is = at; later = later-same log }
      go (Some packet) = takes-grown w packet.0 (event.Datagram packet.1) log at

  run-grown : (w : World) (moves : List Move) (before log : Log) → slice_get w.logs p ≡ Some log → IsLater log before → HasGrown (run setup w moves) p before
  run-grown w [] before log at later = record { log = log; log_is = at; later = later }
  run-grown w (m ∷ ms) before log at later =
      let n : HasGrown (happens setup w m) p log = happens-grown w m log at in
      run-grown (happens setup w m) ms before n.log n.log_is (join-later n.log log before n.later later)

pub parties-grow : PartiesGrow
parties-grow setup moves later p log is at =
    subst (λ w. HasGrown w p log) (sym (run-on setup (initial setup) moves later)) (run-grown setup is p (run setup (initial setup) moves) later log log at (later-same log))
