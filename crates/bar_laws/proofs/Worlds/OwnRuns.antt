-- After moves, a party's state is what its own steps leave over the inputs that the moves gave it.
use Rattle.bar_rules.specs.Broadcaster.Sending.{caster_step}
use Rattle.bar_rules.specs.Peer.Log.{Log}
use Rattle.bar_rules.specs.Peer.Run.{Out, step}
use Rattle.bar_rules.specs.Runs.{state_after, played_from, sends_from}
use Rattle.bar_rules.specs.Values.{datagram_bytes}
use Rattle.bar_rules.specs.World.World.{World, Move, TickOf, Deliver, Hostile, member, party_step, spelled, takes, takes_by, delivered, happens, run, Setup, IsSetup, initial}
use Rattle.bar_wire.specs.Datagram.{Datagram}
use Rattle.bar_wire.specs.Inputs.{Input}
use Rattle.bar_wire.specs.Inputs as event
use Rattle.bar_laws.specs.OwnRuns.{given_to, brought_to, input_at, inputs_from, is_from, packets_of, IsOwnRun, PeersRun, BroadcasterRuns}
use Rattle.bar_laws.specs.Parties.{IsSentBy}
use Rattle.std.proofs.Common.{◌≡◌, ℕ, zero, suc, ◌+◌, ◌<◌, ◌≤◌, Bool, true, false, List, [], ◌∷◌, ◌++◌, refl, sym, ap, ◌∙◌, subst, map, eqb, length, append_assoc, append-nil, arith}
use Rattle.std.specs.Prelude.{Option, Some, None, cond, filter, slice_get, slice_set, unwrap_or}
use Rattle.std.specs.List.{AllByRecursion, concat}
use Rattle.std.specs.Option.{option_map_or}
use Rattle.std.proofs.lemmas.Bool.{both_ways, eqb-true, ne_eqb}
use Rattle.std.proofs.lemmas.List.{map-append}
use Rattle.std.proofs.lemmas.List.Elements.{filter-append}
use Rattle.bar_laws.proofs.Worlds.SentAccepted.{step-accepted, nobody-came}
use Rattle.bar_laws.proofs.Worlds.SoundWorlds.{IsSound, StepsKeep, steps-keep, takes-sound, opened-sound, nobody, set-same}

-- ---- lists

pub set-other : {X : Type 0} (xs : List X) (p q : ℕ) (y : X) → eqb p q ≡ false → slice_get (slice_set xs p y) q ≡ slice_get xs q
set-other [] p q y n = refl
set-other (x ∷ xs) zero zero y n = cc
set-other (x ∷ xs) zero (suc q) y n = refl
set-other (x ∷ xs) (suc p) zero y n = refl
set-other (x ∷ xs) (suc p) (suc q) y n = set-other xs p q y (ne_eqb p q (λ e. both_ways _ n (subst (λ z. eqb (suc p) (suc z) ≡ true) e (eqb-refl (suc p)))))
  where
    eqb-refl : (a : ℕ) → eqb a a ≡ true
    eqb-refl a = grind arith

first-of : {X : Type 0} (secrets : List (List ℕ)) (p : ℕ) (x : X) → p < length secrets → slice_get (map (λ secret. x) secrets) p ≡ Some x
first-of [] p x h = absurd (omega (arith, h))
first-of (s ∷ secrets) zero x h = refl
first-of (s ∷ secrets) (suc p) x h = first-of secrets p x (omega (arith, h))

-- the packets of one step's sends, whatever its number is
numbered : (setup : Setup) (number : ℕ) (sends : List (ℕ × Datagram)) → packets_of setup.session (map (λ send. (number, send.0, send.1)) sends) ≡ spelled setup.session sends
numbered setup number [] = refl
numbered setup number (s ∷ sends) = ap (λ rest. (s.0, datagram_bytes setup.session s.1) ∷ rest) (numbered setup number sends)

-- ---- who sent a packet

is-from : (setup : Setup) (p q : ℕ) (s : ℕ × Datagram) → IsSentBy setup q s → is_from setup.session p (s.0, datagram_bytes setup.session s.1) ≡ eqb q p
is-from setup p q s a = ap (λ o. option_map_or (λ (d : Datagram). eqb d.message.from p) o false) a.reads ∙ ap (λ n. eqb n p) a.from

own-packets : (setup : Setup) (p : ℕ) (sends : List (ℕ × Datagram)) → AllByRecursion (IsSentBy setup p) sends → filter (is_from setup.session p) (spelled setup.session sends) ≡ spelled setup.session sends
own-packets setup p [] a = refl
own-packets setup p (s ∷ sends) a =
    let yes : is_from setup.session p (s.0, datagram_bytes setup.session s.1) ≡ true = is-from setup p p s a.0 ∙ grind arith in
    rw (yes, own-packets setup p sends a.1) refl

other-packets : (setup : Setup) (p q : ℕ) (sends : List (ℕ × Datagram)) → eqb q p ≡ false → AllByRecursion (IsSentBy setup q) sends → filter (is_from setup.session p) (spelled setup.session sends) ≡ []
other-packets setup p q [] n a = refl
other-packets setup p q (s ∷ sends) n a =
    let no : is_from setup.session p (s.0, datagram_bytes setup.session s.1) ≡ false = is-from setup p q s a.0 ∙ n in
    rw no (other-packets setup p q sends n a.1)

-- ---- one input

-- the parts of a world that belong to a party
record IsAt (setup : Setup) (p : ℕ) (w : World) (log : Log) (played : List ℕ) (sent : List (ℕ × List ℕ)) : Type 0 where
  log_is : slice_get w.logs p ≡ Some log
  played_is : slice_get w.played p ≡ Some played
  sent_is : filter (is_from setup.session p) w.packets ≡ sent

takes-own : (setup : Setup) (p : ℕ) (w : World) (i : Input) (log : Log) (played : List ℕ) (sent : List (ℕ × List ℕ)) → StepsKeep setup → IsSound setup nobody w → IsAt setup p w log played sent
    → IsAt setup p (takes setup w p i) (party_step setup p log i).state (played ++ concat (party_step setup p log i).contents) (sent ++ spelled setup.session (party_step setup p log i).sends)
takes-own setup p w i log played sent laws sound at = subst (λ o. IsAt setup p (takes_by setup w p i o) out.state (played ++ concat out.contents) (sent ++ spelled setup.session out.sends)) (sym at.log_is) (record {
  log_is = set-same w.logs p log out.state at.log_is;
  played_is = set-same w.played p played (unwrap_or (slice_get w.played p) [] ++ concat out.contents) at.played_is ∙ ap (λ o. Some (unwrap_or o [] ++ concat out.contents)) at.played_is;
  sent_is =
      filter-append (is_from setup.session p) w.packets (spelled setup.session out.sends)
      ∙ ap (λ old. old ++ filter (is_from setup.session p) (spelled setup.session out.sends)) at.sent_is
      ∙ ap (λ new. sent ++ new) (own-packets setup p out.sends (step-accepted setup w p log i laws sound at.log_is));
})
  where
    out : Out
    out = party_step setup p log i

takes-other : (setup : Setup) (p q : ℕ) (w : World) (i : Input) (log : Log) (played : List ℕ) (sent : List (ℕ × List ℕ)) → StepsKeep setup → IsSound setup nobody w → eqb q p ≡ false → IsAt setup p w log played sent
    → IsAt setup p (takes setup w q i) log played sent
takes-other setup p q w i log played sent laws sound n at = go (slice_get w.logs q) refl
  where
    go : (o : Option Log) → slice_get w.logs q ≡ o → IsAt setup p (takes_by setup w q i o) log played sent
    go None e = at
    go (Some l) e = record {
      log_is = set-other w.logs q p (party_step setup q l i).state n ∙ at.log_is;
      played_is = set-other w.played q p (unwrap_or (slice_get w.played q) [] ++ concat (party_step setup q l i).contents) n ∙ at.played_is;
      sent_is =
          filter-append (is_from setup.session p) w.packets (spelled setup.session (party_step setup q l i).sends)
          ∙ ap (λ old. old ++ filter (is_from setup.session p) (spelled setup.session (party_step setup q l i).sends)) at.sent_is
          ∙ ap (λ new. sent ++ new) (other-packets setup p q (party_step setup q l i).sends n (step-accepted setup w q l i laws sound e))
          ∙ append-nil sent;
    }

-- ---- any moves

pub run-on : (setup : Setup) (w : World) (ms ns : List Move) → run setup w (ms ++ ns) ≡ run setup (run setup w ms) ns
run-on setup w [] ns = refl
run-on setup w (m ∷ ms) ns = run-on setup (happens setup w m) ms ns

-- what a party is given by moves that follow others
pub inputs-on : (setup : Setup) (w : World) (p : ℕ) (ms ns : List Move) → inputs_from setup w p (ms ++ ns) ≡ inputs_from setup w p ms ++ inputs_from setup (run setup w ms) p ns
inputs-on setup w p [] ns = refl
inputs-on setup w p (m ∷ ms) ns =
    ap (λ l. input_at w p m ++ l) (inputs-on setup (happens setup w m) p ms ns)
    ∙ sym (append_assoc (input_at w p m) (inputs_from setup (happens setup w m) p ms) (inputs_from setup (run setup (happens setup w m) ms) p ns))

-- between two worlds, the party takes its own steps over these inputs
abbrev Reaches : Setup → ℕ → World → World → List Input → Type 0
Reaches setup p w end inputs =
    (log : Log) (played : List ℕ) (sent : List (ℕ × List ℕ)) (number : ℕ) → IsAt setup p w log played sent
    → IsAt setup p end (state_after (party_step setup p) log inputs) (played ++ played_from (party_step setup p) log inputs) (sent ++ packets_of setup.session (sends_from (party_step setup p) log number inputs))

reaches-own : (setup : Setup) (p : ℕ) (w end : World) (i : Input) (inputs : List Input) → StepsKeep setup → IsSound setup nobody w → Reaches setup p (takes setup w p i) end inputs → Reaches setup p w end (i ∷ inputs)
reaches-own setup p w end i inputs laws sound more log played sent number at =
    let out : Out = party_step setup p log i in
    let far = more out.state (played ++ concat out.contents) (sent ++ spelled setup.session out.sends) (number + 1) (takes-own setup p w i log played sent laws sound at) in
    record {
      log_is = far.log_is;
      played_is = far.played_is ∙ ap (λ bytes. Some bytes) (append_assoc played (concat out.contents) (played_from (party_step setup p) out.state inputs));
      sent_is =
          far.sent_is ∙ append_assoc sent (spelled setup.session out.sends) (packets_of setup.session (sends_from (party_step setup p) out.state (number + 1) inputs))
          ∙ ap (λ new. sent ++ (new ++ packets_of setup.session (sends_from (party_step setup p) out.state (number + 1) inputs))) (sym (numbered setup number out.sends))
          ∙ ap (λ new. sent ++ new) (sym (map-append _ (map (λ send. (number, send.0, send.1)) out.sends) (sends_from (party_step setup p) out.state (number + 1) inputs)));
    }

reaches-next : (setup : Setup) (p q : ℕ) (w end : World) (i : Input) (inputs : List Input) → StepsKeep setup → IsSound setup nobody w → Reaches setup p (takes setup w q i) end inputs → Reaches setup p w end (given_to p q i ++ inputs)
reaches-next setup p q w end i inputs laws sound more = go (eqb q p) refl
  where
    go : (b : Bool) → eqb q p ≡ b → Reaches setup p w end (cond b (i ∷ []) [] ++ inputs)
    go true e = reaches-own setup p w end i inputs laws sound (subst (λ z. Reaches setup p (takes setup w z i) end inputs) (eqb-true q p e) more)
    go false e = λ log played sent number at. more log played sent number (takes-other setup p q w i log played sent laws sound e at)

run-reaches : (setup : Setup) (p : ℕ) (w : World) (moves : List Move) → StepsKeep setup → IsSound setup nobody w → Reaches setup p w (run setup w moves) (inputs_from setup w p moves)
run-reaches setup p w [] laws sound = λ log played sent number at. record {
  log_is = at.log_is;
  played_is = at.played_is ∙ ap (λ bytes. Some bytes) (sym (append-nil played));
  sent_is = at.sent_is ∙ sym (append-nil sent);
}
run-reaches setup p w (TickOf q ∷ ms) laws sound =
    reaches-next setup p q w _ event.Tick _ laws sound (run-reaches setup p (takes setup w q event.Tick) ms laws (takes-sound setup nobody w q event.Tick laws sound tt))
run-reaches setup p w (Hostile q bytes ∷ ms) laws sound =
    reaches-next setup p q w _ (event.Datagram bytes) _ laws sound (run-reaches setup p (takes setup w q (event.Datagram bytes)) ms laws (takes-sound setup nobody w q (event.Datagram bytes) laws sound (nobody-came setup w (event.Datagram bytes))))
run-reaches setup p w (Deliver k ∷ ms) laws sound = go (slice_get w.packets k) (λ v good. run-reaches setup p v ms laws good)
  where
    go : (o : Option (ℕ × List ℕ)) → ((v : World) → IsSound setup nobody v → Reaches setup p v (run setup v ms) (inputs_from setup v p ms))
        → Reaches setup p w (run setup (delivered setup w o) ms) (brought_to p o ++ inputs_from setup (delivered setup w o) p ms)
    go None more = more w sound
    go (Some packet) more =
        let next : World = takes setup w packet.0 (event.Datagram packet.1) in
        let good : IsSound setup nobody next = takes-sound setup nobody w packet.0 (event.Datagram packet.1) laws sound (nobody-came setup w (event.Datagram packet.1)) in
        reaches-next setup p packet.0 w _ (event.Datagram packet.1) _ laws sound (more next good)

-- from the first move on
own-run : (setup : Setup) (moves : List Move) (p : ℕ) → IsSetup setup → p ≤ setup.session.shape.peers → IsOwnRun setup moves p (party_step setup p)
own-run setup moves p is low =
    let all : length setup.secrets ≡ setup.session.shape.peers + 1 = is.parties in
    let few : p < length setup.secrets = omega (arith, all, low) in
    let end = run-reaches setup p (initial setup) moves (steps-keep setup is) (opened-sound setup nobody is.parties) [] [] [] 1 (record { log_is = first-of setup.secrets p [] few; played_is = first-of setup.secrets p [] few; sent_is = refl }) in
    record { log = end.log_is; played = end.played_is; sent = end.sent_is }

pub peers-run : PeersRun
peers-run setup moves is p low high =
    let n : eqb p 0 ≡ false = ne_eqb p 0 (λ z. absurd (omega arith)) in
    subst (λ (b : Bool). IsOwnRun setup moves p (λ log input. cond b (caster_step (member setup 0) setup.stream log input) (step (member setup p) log input))) n (own-run setup moves p is high)

pub broadcaster-runs : BroadcasterRuns
broadcaster-runs setup moves is = own-run setup moves 0 is (omega arith)
