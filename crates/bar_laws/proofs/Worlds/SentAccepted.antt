-- What is sent is accepted, whatever is forged.
use Rattle.bar_rules.specs.Peer.Log.{Log}
use Rattle.bar_rules.specs.World.World.{World, Move, TickOf, Deliver, Hostile, member, party_step, spelled, takes, takes_by, delivered, happens, run, Setup, IsSetup, initial}
use Rattle.bar_wire.specs.Datagram.{Datagram}
use Rattle.bar_wire.specs.Inputs.{Input}
use Rattle.bar_wire.specs.Inputs as event
use Rattle.bar_wire.specs.Grammar.{IsDatagram}
use Rattle.bar_laws.specs.Parties.{IsSentBy, IsOfParty, SentIsAccepted, StepIsAccepted}
use Rattle.std.proofs.Common.{◌≡◌, ℕ, ◌≤◌, List, [], ◌∷◌, inl, inr, refl}
use Rattle.std.specs.Prelude.{Option, Some, None, slice_get}
use Rattle.std.specs.List.{AllByRecursion}
use Rattle.std.proofs.lemmas.Bool.{both_ways}
use Rattle.bar_laws.proofs.Runs.{SentBy}
use Rattle.bar_laws.proofs.Fitting.{AllFit, IsOwnMessage}
use Rattle.bar_laws.proofs.Logs.{fits-back, SaidIn, all-both}
use Rattle.bar_laws.proofs.Worlds.SoundWorlds.{IsStep, IsSound, StepsKeep, steps-keep, takes-sound, opened-sound, nobody, nobody-genuine, all-nobody, CameUnforged}

-- what was said is accepted, and what is plain isn't signed
sent-accepted : (setup : Setup) (p : ℕ) (log : Log) (s : ℕ × Datagram) → ((d : Datagram) → SaidIn log d → IsOwnMessage setup.session setup.stream p d) → SentBy (member setup p) log s → IsDatagram setup.session.shape s.1
    → IsSentBy setup p s
sent-accepted setup p log s own (inl said) fits =
    let mine = own s.1 said in record { reads = fits-back setup.session s.1 fits; from = mine.from; accepted = λ signed. mine.accepted }
sent-accepted setup p log s own (inr (from, plain)) fits =
    record { reads = fits-back setup.session s.1 fits; from = from; accepted = λ signed. absurd (both_ways _ plain.unsigned_kind signed) }

all-accepted : (setup : Setup) (p : ℕ) (log : Log) (sends : List (ℕ × Datagram)) → ((d : Datagram) → SaidIn log d → IsOwnMessage setup.session setup.stream p d) → AllByRecursion (SentBy (member setup p) log) sends → AllFit setup.session sends
    → AllByRecursion (IsSentBy setup p) sends
all-accepted setup p log [] own a b = tt
all-accepted setup p log (s ∷ sends) own a b = (sent-accepted setup p log s own a.0 b.0, all-accepted setup p log sends own a.1 b.1)

-- what a party of a sound world sends
pub step-accepted : (setup : Setup) (w : World) (p : ℕ) (log : Log) (i : Input) → StepsKeep setup → IsSound setup nobody w → slice_get w.logs p ≡ Some log → AllByRecursion (IsSentBy setup p) (party_step setup p log i).sends
step-accepted setup w p log i laws sound at =
    let st : IsStep setup p log i (party_step setup p log i) = laws p log i (sound.peers p log at) (sound.proper p log at) in
    all-accepted setup p (party_step setup p log i).state (party_step setup p log i).sends st.mine st.adds.sent st.fits

-- as packets
all-packets : (setup : Setup) (p : ℕ) (sends : List (ℕ × Datagram)) → p ≤ setup.session.shape.peers → AllByRecursion (IsSentBy setup p) sends → AllByRecursion (IsOfParty setup) (spelled setup.session sends)
all-packets setup p [] low a = tt
all-packets setup p (s ∷ sends) low a = (record { party = p; present = low; datagram = s.1; accepted = a.0 }, all-packets setup p sends low a.1)

pub nobody-came : (setup : Setup) (w : World) (i : Input) → CameUnforged setup nobody w i
nobody-came setup w event.Tick = tt
nobody-came setup w (event.Datagram bytes) = (nobody-genuine setup w bytes, λ d reads. all-nobody setup w _)

-- a world that is sound, and whose packets are accepted
pub record IsHeld (setup : Setup) (w : World) : Type 0 where
  pub sound : IsSound setup nobody w
  pub packets : AllByRecursion (IsOfParty setup) w.packets

takes-held : (setup : Setup) (w : World) (p : ℕ) (i : Input) → StepsKeep setup → IsHeld setup w → IsHeld setup (takes setup w p i)
takes-held setup w p i laws h = record { sound = takes-sound setup nobody w p i laws h.sound (nobody-came setup w i); packets = go (slice_get w.logs p) refl }
  where
    go : (o : Option Log) → slice_get w.logs p ≡ o → AllByRecursion (IsOfParty setup) (takes_by setup w p i o).packets
    go None e = h.packets
    go (Some log) e =
        all-both (IsOfParty setup) w.packets _ h.packets (all-packets setup p (party_step setup p log i).sends (h.sound.peers p log e) (step-accepted setup w p log i laws h.sound e))

deliver-held : (setup : Setup) (w : World) (k : ℕ) → StepsKeep setup → IsHeld setup w → IsHeld setup (happens setup w (Deliver k))
deliver-held setup w k laws h = go (slice_get w.packets k)
  where
    go : (o : Option (ℕ × List ℕ)) → IsHeld setup (delivered setup w o)
    go None = h
    go (Some d) = takes-held setup w d.0 (event.Datagram d.1) laws h

run-held : (setup : Setup) (w : World) (moves : List Move) → StepsKeep setup → IsHeld setup w → IsHeld setup (run setup w moves)
run-held setup w [] laws h = h
run-held setup w (TickOf p ∷ ms) laws h = run-held setup (happens setup w (TickOf p)) ms laws (takes-held setup w p event.Tick laws h)
run-held setup w (Deliver k ∷ ms) laws h = run-held setup (happens setup w (Deliver k)) ms laws (deliver-held setup w k laws h)
run-held setup w (Hostile to b ∷ ms) laws h = run-held setup (happens setup w (Hostile to b)) ms laws (takes-held setup w to (event.Datagram b) laws h)

run-is-held : (setup : Setup) (moves : List Move) → IsSetup setup → IsHeld setup (run setup (initial setup) moves)
run-is-held setup moves is = run-held setup (initial setup) moves (steps-keep setup is) (record { sound = opened-sound setup nobody is.parties; packets = tt })

pub packets-accepted : SentIsAccepted
packets-accepted setup moves is = (run-is-held setup moves is).packets

pub steps-accepted : StepIsAccepted
steps-accepted setup moves is p log i at = step-accepted setup (run setup (initial setup) moves) p log i (steps-keep setup is) (run-is-held setup moves is).sound at
