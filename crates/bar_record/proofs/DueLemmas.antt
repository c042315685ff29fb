-- What is due for an input, and how the time, the datagrams in a row and the remaining work change.
use Rattle.std.proofs.Common.{◌≡◌, ◌≢◌, ◌≤◌, ◌<◌, ℕ, ◌+◌, ◌-◌, ◌*◌, ◌==◌, nat_le, min, Bool, true, false, List, [], ◌∷◌, ◌++◌, length, refl, sym, arith}
use Rattle.std.proofs.lemmas.Bool.Decides.{nat_tests}
use Rattle.std.proofs.lemmas.Bool.{eqb-false}
use Rattle.bar_wire.specs.Inputs.{Input, Tick, Datagram}
use Rattle.bar_record.specs.Pacing.{due, is_due, is_datagram, run_after, ticks_of}
use Rattle.bar_record.proofs.PacingLemmas.{ticks_joined}

-- ---- the time, which stops at the last tick

-- the last tick wasn't taken yet
pub not-late : (last ticks : ℕ) → false ≡ nat_le last ticks → ticks < last
not-late last ticks e = grind (arith, nat_tests)

-- before the last tick all ticks count
pub all-count : (taken : List Input) (last ticks : ℕ) → ticks ≡ min (ticks_of taken) last → ticks < last → ticks_of taken ≡ ticks
all-count taken last ticks e early = omega arith

-- what the tests of the time imply for the ticks
pub ticks-early : (taken : List Input) (last ticks end : ℕ) → ticks ≡ min (ticks_of taken) end → end ≡ last → false ≡ nat_le end ticks →
    nat_le last (ticks_of taken) ≡ false
ticks-early taken last ticks end e same early = let less : ticks < end = not-late end ticks early in grind (arith, nat_tests)

pub ticks-late : (taken : List Input) (last ticks end : ℕ) → ticks ≡ min (ticks_of taken) end → end ≡ last → true ≡ nat_le end ticks →
    nat_le last (ticks_of taken) ≡ true
ticks-late taken last ticks end e same late = grind (arith, nat_tests)

early-test : (last ticks : ℕ) → ticks < last → nat_le last ticks ≡ false
early-test last ticks early = grind (arith, nat_tests)

-- ---- what is due

no-tick : (A : Type 0) (run : ℕ) → true ≡ is_due run false → A
no-tick A run f = cc

module _ (last ticks run : ℕ) (early : ticks < last) (d : Bool) where
  -- no tick is due
  pub due-plain : (input : Input) → d ≡ is_datagram input → false ≡ is_due run d → due last ticks run input ≡ input ∷ []
  due-plain Tick is f = let e = early-test last ticks early in rw e refl
  due-plain (Datagram bytes) is f =
      let e = early-test last ticks early in
      let h : (run == 65536) ≡ false = sym (rw is at f) in
      rw (e, h) refl

  tick-alone : (input : Input) → d ≡ is_datagram input → true ≡ is_due run d → nat_le last (ticks + 1) ≡ true →
      due last ticks run input ≡ Tick ∷ []
  tick-alone Tick is f late = no-tick _ run (rw is at f)
  tick-alone (Datagram bytes) is f late =
      let e = early-test last ticks early in
      let t : (run == 65536) ≡ true = sym (rw is at f) in
      rw (e, t, late) refl

  tick-before : (input : Input) → d ≡ is_datagram input → true ≡ is_due run d → nat_le last (ticks + 1) ≡ false →
      due last ticks run input ≡ Tick ∷ input ∷ []
  tick-before Tick is f on = no-tick _ run (rw is at f)
  tick-before (Datagram bytes) is f on =
      let e = early-test last ticks early in
      let t : (run == 65536) ≡ true = sym (rw is at f) in
      rw (e, t, on) refl

  -- a tick is due
  pub due-first : (input : Input) → d ≡ is_datagram input → true ≡ is_due run d →
      (rest : List Input) × (due last ticks run input ≡ Tick ∷ rest)
  due-first input is f = by_test (nat_le last (ticks + 1)) refl
    where
      by_test : (b : Bool) → nat_le last (ticks + 1) ≡ b → (rest : List Input) × (due last ticks run input ≡ Tick ∷ rest)
      by_test true h = ([], tick-alone input is f h)
      by_test false h = (input ∷ [], tick-before input is f h)

  -- the time before and after a tick
  module _ (taken : List Input) (timed : ticks ≡ min (ticks_of taken) last) (end at : ℕ) (same : end ≡ last)
      (timed_then : at ≡ min (ticks_of (taken ++ Tick ∷ [])) end) where
    one-tick : at ≡ ticks + 1
    one-tick = let n = ticks_joined taken (Tick ∷ []) in omega arith

    -- that tick is the last
    pub due-last : (input : Input) → d ≡ is_datagram input → true ≡ is_due run d → true ≡ nat_le end at →
        due last ticks run input ≡ Tick ∷ []
    due-last input is f late = tick-alone input is f (sym (rw (same, one-tick) at late))

    -- it isn't the last, and the input is taken after it
    pub due-both : (input : Input) → d ≡ is_datagram input → true ≡ is_due run d → false ≡ nat_le end at →
        due last ticks run input ≡ Tick ∷ input ∷ []
    due-both input is f on = tick-before input is f (sym (rw (same, one-tick) at on))

-- ---- datagrams in a row, and the remaining work

-- there are never too many datagrams in a row
pub row-stays : (run : ℕ) (d : Bool) → run ≤ 65536 → run_after run d ≤ 65536
row-stays run false few = omega arith
row-stays run true few = by_test (run == 65536) refl
  where
    by_test : (b : Bool) → (run == 65536) ≡ b → run_after run true ≤ 65536
    by_test true e = rw e (omega arith)
    by_test false e = let h : run ≢ 65536 = eqb-false run 65536 e in rw e (omega arith)

module _ (last ticks run : ℕ) (early : ticks < last) (few : run ≤ 65536) where
  due-less : (input : Input) →
      (last - (ticks + ticks_of (due last ticks run input))) * 65537 + (65536 - run_after run (is_datagram input))
      < (last - ticks) * 65537 + (65536 - run)
  due-less Tick = let e = early-test last ticks early in rw e (omega arith)
  due-less (Datagram bytes) = by_tests (run == 65536) (nat_le last (ticks + 1)) refl refl
    where
      by_tests : (b d : Bool) → (run == 65536) ≡ b → nat_le last (ticks + 1) ≡ d →
          (last - (ticks + ticks_of (due last ticks run (Datagram bytes)))) * 65537 + (65536 - run_after run true)
          < (last - ticks) * 65537 + (65536 - run)
      by_tests true true e f = let h = early-test last ticks early in rw (h, e, f) (omega arith)
      by_tests true false e f = let h = early-test last ticks early in rw (h, e, f) (omega arith)
      by_tests false d e f = let h = early-test last ticks early in let k : run ≢ 65536 = eqb-false run 65536 e in rw (h, e) (omega arith)

  -- less work is left after each input
  pub less-work : (taken : List Input) (input : Input) (end at row : ℕ) → ticks ≡ min (ticks_of taken) last → end ≡ last →
      at ≡ min (ticks_of (taken ++ due last ticks run input)) end → row ≡ run_after run (is_datagram input) →
      (end - at) * 65537 + (65536 - row) < (last - ticks) * 65537 + (65536 - run)
  less-work taken input end at row e same f is =
      let n = ticks_joined taken (due last ticks run input) in
      let same_left : end - at ≡ last - (ticks + ticks_of (due last ticks run input)) = omega arith in
      rw (same_left, is) (due-less input)

  -- each tick is followed by at most a full row of datagrams
  pub few-due : (n : ℕ) (input : Input) → n ≤ 65537 * ticks + run →
      n + length (due last ticks run input) ≤ 65537 * (ticks + ticks_of (due last ticks run input)) + run_after run (is_datagram input)
  few-due n Tick h = let e = early-test last ticks early in rw e (omega arith)
  few-due n (Datagram bytes) h = by_tests (run == 65536) (nat_le last (ticks + 1)) refl refl
    where
      by_tests : (b d : Bool) → (run == 65536) ≡ b → nat_le last (ticks + 1) ≡ d →
          n + length (due last ticks run (Datagram bytes))
          ≤ 65537 * (ticks + ticks_of (due last ticks run (Datagram bytes))) + run_after run true
      by_tests true true e f = let k = early-test last ticks early in rw (k, e, f) (omega arith)
      by_tests true false e f = let k = early-test last ticks early in rw (k, e, f) (omega arith)
      by_tests false d e f = let k = early-test last ticks early in let u : run ≢ 65536 = eqb-false run 65536 e in rw (k, e) (omega arith)
