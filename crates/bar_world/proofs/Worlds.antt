-- Worlds with one more move.
use Rattle.std.specs.declared.alloc.Global.{Global}
use Rattle.bar_wire.specs.Inputs.{Input}
use Rattle.bar_wire.specs.Inputs as event
use Rattle.bar_core.specs.Code.Face.{Face}
use Rattle.bar_core.specs.Rules.{Rules, Send}
use Rattle.bar_rules.specs.Peer.Log.{Log}
use Rattle.bar_rules.specs.Runs.{Outcome, state_after}
use Rattle.bar_rules.specs.World.World.{Setup, World, Move, TickOf, Deliver, Hostile, party_step, spelled, takes, takes_by, delivered, happens, run, initial}
use Rattle.bar_laws.specs.Parties.{after}
use Rattle.bar_laws.specs.OwnRuns.{inputs_of, input_at, IsOwnRun}
use Rattle.bar_laws.proofs.Worlds.{inputs-on, run-on}
use Rattle.bar_world.specs.Code.Cores.{IsCoreOf}
use Rattle.bar_world.specs.Code.Given.{Gives}
use Rattle.bar_world.specs.Code.Texts.{texts}
use Rattle.std.proofs.Common.{◌≡◌, ◌≤◌, ◌∙◌, ℕ, zero, suc, false, List, [], ◌∷◌, ◌++◌, eqb, cond, length, map, refl, sym, ap, subst, append-nil, arith}
use Rattle.std.specs.Prelude.{Vec, Option, Some, None, slice_get, slice_set, unwrap_or, option_map}
use Rattle.std.specs.List.{concat}
use Rattle.std.proofs.lemmas.List.{length-map}
use Rattle.std.proofs.lemmas.Option.{slice_get-map}
use Rattle.bar_bytes.proofs.Tests.{eqb_refl}
use Rattle.bar_bytes.proofs.Lengths.{length-slice_set}

-- ---- lists

map-set : {X Y : Type 0} (f : X → Y) (xs : List X) (p : ℕ) (x : X) → map f (slice_set xs p x) ≡ slice_set (map f xs) p (f x)
map-set f [] p x = refl
map-set f (y ∷ xs) zero x = refl
map-set f (y ∷ xs) (suc p) x = ap (λ zs. f y ∷ zs) (map-set f xs p x)

past : {X : Type 0} (xs : List X) (p : ℕ) → length xs ≤ p → slice_get xs p ≡ None
past [] p h = refl
past (x ∷ xs) zero h = absurd (omega (arith, h))
past (x ∷ xs) (suc p) h = past xs p (omega (arith, h))

-- ---- one more move

pub after-more : (setup : Setup) (moves : List Move) (m : Move) → after setup (moves ++ m ∷ []) ≡ happens setup (after setup moves) m
after-more setup moves m = run-on setup (initial setup) moves (m ∷ [])

pub inputs-more : (setup : Setup) (moves : List Move) (m : Move) (p : ℕ)
    → inputs_of setup (moves ++ m ∷ []) p ≡ inputs_of setup moves p ++ input_at (after setup moves) p m
inputs-more setup moves m p =
    inputs-on setup (initial setup) p moves (m ∷ [])
    ∙ ap (λ rest. inputs_of setup moves p ++ rest) (append-nil (input_at (after setup moves) p m))

-- ---- the number of logs

takes-count : (setup : Setup) (w : World) (p : ℕ) (input : Input) → length (takes setup w p input).logs ≡ length w.logs
takes-count setup w p input = go (slice_get w.logs p)
  where
    go : (o : Option Log) → length (takes_by setup w p input o).logs ≡ length w.logs
    go None = refl
    go (Some log) = length-slice_set w.logs p (party_step setup p log input).state

delivered-count : (setup : Setup) (w : World) (o : Option (ℕ × List ℕ)) → length (delivered setup w o).logs ≡ length w.logs
delivered-count setup w None = refl
delivered-count setup w (Some packet) = takes-count setup w packet.0 (event.Datagram packet.1)

happens-count : (setup : Setup) (w : World) (m : Move) → length (happens setup w m).logs ≡ length w.logs
happens-count setup w (TickOf p) = takes-count setup w p event.Tick
happens-count setup w (Deliver k) = delivered-count setup w (slice_get w.packets k)
happens-count setup w (Hostile p bytes) = takes-count setup w p (event.Datagram bytes)

run-count : (setup : Setup) (w : World) (moves : List Move) → length (run setup w moves).logs ≡ length w.logs
run-count setup w [] = refl
run-count setup w (m ∷ moves) = run-count setup (happens setup w m) moves ∙ happens-count setup w m

pub logs-count : (setup : Setup) (moves : List Move) → length (after setup moves).logs ≡ length setup.secrets
logs-count setup moves = run-count setup (initial setup) moves ∙ length-map setup.secrets (λ s. [])

-- ---- a move that gives no input

-- a party that doesn't exist
pub nobody-takes : (setup : Setup) (moves : List Move) (m : Move) (p : ℕ) (input : Input) → Gives setup (after setup moves) m p input
    → length setup.secrets ≤ p → happens setup (after setup moves) m ≡ after setup moves
nobody-takes setup moves m p input gives far =
    let none : slice_get (after setup moves).logs p ≡ None = past _ p (subst (λ n. n ≤ p) (sym (logs-count setup moves)) far) in
    gives.next ∙ ap (λ o. takes_by setup (after setup moves) p input o) none

-- the core of another party took no further input
pub others-took : (setup : Setup) (moves : List Move) (m : Move) (q : ℕ) (rules : Rules) (stands : List Input → Type 0) (face : Face)
    → input_at (after setup moves) q m ≡ [] → IsCoreOf rules (inputs_of setup moves q) stands face
    → IsCoreOf rules (inputs_of setup (moves ++ m ∷ []) q) stands face
others-took setup moves m q rules stands face none core = record {
  rules_are = core.rules_are;
  took =
      subst stands
      (sym (inputs-more setup moves m q ∙ ap (λ rest. inputs_of setup moves q ++ rest) none ∙ append-nil (inputs_of setup moves q)))
      core.took;
}

-- ---- a move that gives a party an input

-- the world after a step of a party
abbrev stepped : Setup → World → ℕ → Outcome Log → World
stepped setup w p out =
    record {
      logs = slice_set w.logs p out.state;
      played = slice_set w.played p (unwrap_or (slice_get w.played p) [] ++ concat out.contents);
      packets = w.packets ++ spelled setup.session out.sends;
    }

module _ (setup : Setup) (moves : List Move) (m : Move) (p : ℕ) (input : Input) (gives : Gives setup (after setup moves) m p input)
    (steps : Log → Input → Outcome Log) (same : (log : Log) (i : Input) → party_step setup p log i ≡ steps log i)
    (own : IsOwnRun setup moves p steps) where
  stepped-so :
      after setup (moves ++ m ∷ [])
      ≡ stepped setup (after setup moves) p (steps (state_after steps [] (inputs_of setup moves p)) input)
  stepped-so =
      after-more setup moves m
      ∙ gives.next
      ∙ ap (λ o. takes_by setup (after setup moves) p input o) own.log
      ∙ ap (λ (out : Outcome Log). stepped setup (after setup moves) p out) (same (state_after steps [] (inputs_of setup moves p)) input)

  pub packets-more : (old new : List Send) → old ≡ (after setup moves).packets
      → new ≡ old ++ spelled setup.session (steps (state_after steps [] (inputs_of setup moves p)) input).sends
      → new ≡ (after setup (moves ++ m ∷ [])).packets
  packets-more old new is more =
      more
      ∙ ap (λ packets. packets ++ spelled setup.session (steps (state_after steps [] (inputs_of setup moves p)) input).sends) is
      ∙ ap (λ (w : World). w.packets) (sym stepped-so)

  pub played-more : (old new : List (Vec ℕ Global)) (bytes more : Vec ℕ Global) → texts old ≡ (after setup moves).played
      → slice_get old p ≡ Some bytes → new ≡ slice_set old p more
      → more.items ≡ bytes.items ++ concat (steps (state_after steps [] (inputs_of setup moves p)) input).contents
      → texts new ≡ (after setup (moves ++ m ∷ [])).played
  played-more old new bytes more is at set longer =
      let here : slice_get (after setup moves).played p ≡ Some bytes.items =
      ap (λ texts. slice_get texts p) (sym is) ∙ slice_get-map (λ (b : Vec ℕ Global). b.items) old p
      ∙ ap (λ o. option_map (λ (b : Vec ℕ Global). b.items) o) at
      in
      ap texts set
      ∙ map-set (λ (b : Vec ℕ Global). b.items) old p more
      ∙ (λ i. slice_set (is i) p (longer i))
      ∙ ap (λ o. slice_set (after setup moves).played p
      (unwrap_or o [] ++ concat (steps (state_after steps [] (inputs_of setup moves p)) input).contents))
      (sym here)
      ∙ ap (λ (w : World). w.played) (sym stepped-so)

  -- the party's core took the input
  pub own-took : (rules : Rules) (was now : List Input → Type 0) (old new : Face) → IsCoreOf rules (inputs_of setup moves p) was old
      → new.rules ≡ old.rules → ((before : List Input) → was before → now (before ++ input ∷ []))
      → IsCoreOf rules (inputs_of setup (moves ++ m ∷ []) p) now new
  own-took rules was now old new core kept stands = record {
    rules_are = kept ∙ core.rules_are;
    took =
        subst now
        (sym (inputs-more setup moves m p
        ∙ ap (λ rest. inputs_of setup moves p ++ rest) (gives.inputs p ∙ ap (λ b. cond b (input ∷ []) []) (eqb_refl p))))
        (stands (inputs_of setup moves p) core.took);
  }

  -- no other party is given an input
  pub others-get-nothing : (q : ℕ) → eqb p q ≡ false → input_at (after setup moves) q m ≡ []
  others-get-nothing q other = gives.inputs q ∙ ap (λ b. cond b (input ∷ []) []) other
