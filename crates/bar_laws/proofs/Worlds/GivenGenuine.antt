-- If nothing is forged, what the moves give a party is genuine, and remains so.
use Rattle.bar_rules.specs.Peer.Log.{Log}
use Rattle.bar_rules.specs.World.World.{World, Move, TickOf, Deliver, Hostile, party_step, takes, takes_by, delivered, happens, run, IsGenuine, AreUnforged, Setup, initial}
use Rattle.bar_wire.specs.Inputs.{Input}
use Rattle.bar_wire.specs.Inputs as event
use Rattle.bar_laws.specs.OwnRuns.{given_to, brought_to, inputs_from, GivenIsGenuine}
use Rattle.std.proofs.Common.{◌≡◌, ℕ, zero, suc, ◌<◌, Bool, true, false, List, [], ◌∷◌, ◌++◌, refl, subst, inl, inr, eqb, arith}
use Rattle.std.specs.Prelude.{Option, Some, None, cond, slice_get, slice_index_or, Contains}
use Rattle.std.proofs.lemmas.List.Elements.{Contains-append_cases}
use Rattle.bar_laws.proofs.Worlds.SoundWorlds.{IsSound, StepsKeep, CameUnforged, deliver-sound, genuine-wider, opened-sound, packets-at, steps-keep, takes-sound, wider}

-- ---- lists

none-in : {X : Type 0} (x : X) → Contains [] x → ⊥
none-in x c = absurd (omega (arith, c.1))

-- what a receiver is given is the input
given-is : (p q : ℕ) (i j : Input) → Contains (given_to p q i) j → i ≡ j
given-is p q i j c = go (eqb q p) c
  where
    one : Contains (i ∷ []) j → i ≡ j
    one c = first c.0 c.1 c.2
      where
        first : (k : ℕ) → k < 1 → slice_index_or (i ∷ []) k j ≡ j → i ≡ j
        first zero below at = at
        first (suc k) below at = absurd (omega (arith, below))

    go : (b : Bool) → Contains (cond b (i ∷ []) []) j → i ≡ j
    go true c = one c
    go false c = absurd (none-in j c)

no-datagram : (bytes : List ℕ) → event.Tick ≡ event.Datagram bytes → ⊥
no-datagram bytes e = cc

-- ---- what is genuine remains so

module _ (setup : Setup) (trusted : ℕ → Bool) (laws : StepsKeep setup) where
  takes-genuine : (w : World) (p : ℕ) (i : Input) → IsSound setup trusted w → CameUnforged setup trusted w i → (b : List ℕ) → IsGenuine setup trusted w b
      → IsGenuine setup trusted (takes setup w p i) b
  takes-genuine w p i sound fresh b g = go (slice_get w.logs p) refl
    where
      go : (o : Option Log) → slice_get w.logs p ≡ o → IsGenuine setup trusted (takes_by setup w p i o) b
      go None e = g
      go (Some log) e =
          genuine-wider setup trusted (takes_by setup w p i (Some log)) w b
          (wider setup trusted w p log i (party_step setup p log i) sound e fresh (laws p log i (sound.peers p log e) (sound.proper p log e))) g

  deliver-genuine : (w : World) (k : ℕ) → IsSound setup trusted w → (b : List ℕ) → IsGenuine setup trusted w b
      → IsGenuine setup trusted (happens setup w (Deliver k)) b
  deliver-genuine w k sound b g = go (slice_get w.packets k) refl
    where
      go : (o : Option (ℕ × List ℕ)) → slice_get w.packets k ≡ o → IsGenuine setup trusted (delivered setup w o) b
      go None e = g
      go (Some d) e = takes-genuine w d.0 (event.Datagram d.1) sound (packets-at setup trusted w w.packets k d sound.packets e) b g

  run-genuine : (w : World) (moves : List Move) → IsSound setup trusted w → AreUnforged setup trusted w moves → (b : List ℕ) → IsGenuine setup trusted w b
      → IsGenuine setup trusted (run setup w moves) b
  run-genuine w [] sound u b g = g
  run-genuine w (TickOf p ∷ ms) sound u b g =
      run-genuine (takes setup w p event.Tick) ms (takes-sound setup trusted w p event.Tick laws sound tt) u b (takes-genuine w p event.Tick sound tt b g)
  run-genuine w (Deliver k ∷ ms) sound u b g =
      run-genuine (happens setup w (Deliver k)) ms (deliver-sound setup trusted w k laws sound) u b (deliver-genuine w k sound b g)
  run-genuine w (Hostile to bytes ∷ ms) sound u b g =
      run-genuine (takes setup w to (event.Datagram bytes)) ms (takes-sound setup trusted w to (event.Datagram bytes) laws sound u.0) u.1 b
      (takes-genuine w to (event.Datagram bytes) sound u.0 b g)

  -- ---- what is given is genuine

  -- what these moves give a party is genuine at their end
  abbrev GivesGenuine : World → List Move → Type 0
  GivesGenuine w moves =
      (p : ℕ) (bytes : List ℕ) → Contains (inputs_from setup w p moves) (event.Datagram bytes) → IsGenuine setup trusted (run setup w moves) bytes

  -- a datagram that a party takes is genuine at the end of the moves that follow
  taken : (w : World) (p q : ℕ) (came : List ℕ) (ms : List Move) → IsSound setup trusted w → CameUnforged setup trusted w (event.Datagram came)
      → AreUnforged setup trusted (takes setup w q (event.Datagram came)) ms → (bytes : List ℕ)
      → Contains (given_to p q (event.Datagram came)) (event.Datagram bytes)
      → IsGenuine setup trusted (run setup (takes setup w q (event.Datagram came)) ms) bytes
  taken w p q came ms sound fresh u bytes has =
      let is : event.Datagram came ≡ event.Datagram bytes = given-is p q (event.Datagram came) (event.Datagram bytes) has in
      let same : came ≡ bytes = cc in
      subst (IsGenuine setup trusted (run setup (takes setup w q (event.Datagram came)) ms)) same
      (run-genuine (takes setup w q (event.Datagram came)) ms (takes-sound setup trusted w q (event.Datagram came) laws sound fresh) u came
      (takes-genuine w q (event.Datagram came) sound fresh came fresh.0))

  gives-genuine : (w : World) (moves : List Move) → IsSound setup trusted w → AreUnforged setup trusted w moves → GivesGenuine w moves
  gives-genuine w [] sound u p bytes has = absurd (none-in (event.Datagram bytes) has)
  gives-genuine w (TickOf q ∷ ms) sound u p bytes has =
      elim (Contains-append_cases (given_to p q event.Tick) (inputs_from setup (takes setup w q event.Tick) p ms) (event.Datagram bytes) has) [
        | inl now ↦ absurd (no-datagram bytes (given-is p q event.Tick (event.Datagram bytes) now))
        | inr later ↦ gives-genuine (takes setup w q event.Tick) ms (takes-sound setup trusted w q event.Tick laws sound tt) u p bytes later
      ]
  gives-genuine w (Hostile q came ∷ ms) sound u p bytes has =
      elim (Contains-append_cases (given_to p q (event.Datagram came)) (inputs_from setup (takes setup w q (event.Datagram came)) p ms) (event.Datagram bytes) has) [
        | inl now ↦ taken w p q came ms sound u.0 u.1 bytes now
        | inr later ↦
            gives-genuine (takes setup w q (event.Datagram came)) ms (takes-sound setup trusted w q (event.Datagram came) laws sound u.0) u.1 p bytes later
      ]
  gives-genuine w (Deliver k ∷ ms) sound u p bytes has =
      go (slice_get w.packets k) refl u (gives-genuine (happens setup w (Deliver k)) ms (deliver-sound setup trusted w k laws sound) u) has
    where
      go : (o : Option (ℕ × List ℕ)) → slice_get w.packets k ≡ o → AreUnforged setup trusted (delivered setup w o) ms → GivesGenuine (delivered setup w o) ms
          → Contains (brought_to p o ++ inputs_from setup (delivered setup w o) p ms) (event.Datagram bytes)
          → IsGenuine setup trusted (run setup (delivered setup w o) ms) bytes
      go None e u more has = more p bytes has
      go (Some packet) e u more has =
          elim (Contains-append_cases (given_to p packet.0 (event.Datagram packet.1)) (inputs_from setup (delivered setup w (Some packet)) p ms) (event.Datagram bytes) has) [
            | inl now ↦ taken w p packet.0 packet.1 ms sound (packets-at setup trusted w w.packets k packet sound.packets e) u bytes now
            | inr later ↦ more p bytes later
          ]

pub given-genuine : GivenIsGenuine
given-genuine setup trusted moves h receiver bytes has =
    gives-genuine setup trusted (steps-keep setup h.setup_is) (initial setup) moves (opened-sound setup trusted h.setup_is.parties) h.unforged receiver bytes has
