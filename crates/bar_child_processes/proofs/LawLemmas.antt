-- What the status of a session implies about its children.
use Rattle.std.proofs.Common.{◌≡◌, ◌≢◌, ◌⊎◌, ◌+◌, ◌++◌, ◌==◌, ℕ, true, false, length, flat_map, pos, sym, ap, ◌∙◌, inl, inr, arith}
use Rattle.std.specs.List.{list_any}
use Rattle.std.proofs.lemmas.Bool.{cases_eq, or_left, or_parts, or_right}
use Rattle.std.proofs.lemmas.Bool.Decides.{nat_tests}
use Rattle.bar_outside.specs.Code.Causes.{Rose}
use Rattle.bar_child_processes.specs.Family.{is_refused, is_refused_wait, status_line, with_children}
use Rattle.bar_child_processes.specs.Laws.{DoneSessions, FailedOutputs, FailedSessions, FaultlessSessions, HasFailed, IsToldByChildren}
use Rattle.bar_child_processes.specs.Sessions.{AreAllStarted}
use Rattle.bar_child_processes.specs.Words.{first_parties}
use Rattle.bar_child_processes.proofs.Causes.{Cause, Why, any-there, by_end, by_line, by_wait, cause-of, end-nine, end-seven, line-nine, line-seven, wait-nine, wait-seven}
use Rattle.bar_child_processes.proofs.Told.{all-shown, all-well, has-failed, kept-told, lines-shown, lines-well, shown-ending, zero-told}

-- no start was refused
all-started : (peers count stop : ℕ) → stop ≢ 9 → stop ≢ 70 → AreAllStarted peers count stop → (stop ≡ 0) × (count ≡ peers + 1)
all-started peers count stop h k (inl all) = all
all-started peers count stop h k (inr (inl nine, few)) = absurd (h nine)
all-started peers count stop h k (inr (inr memory, few)) = absurd (k memory)

not-nine : (stop : ℕ) → (stop == 9) ≡ false → stop ≢ 9
not-nine stop h = grind (arith, nat_tests)

is-nine : (stop : ℕ) → stop ≡ 9 → (stop == 9) ≡ true
is-nine stop h = grind (arith, nat_tests)

pub done : DoneSessions
done names peers out_old out_new old new ran =
    let zero = zero-told ran.stop ran.family (sym ran.code) in
    let all = all-started peers (length ran.family) ran.stop (λ e. absurd (omega (arith, e, zero.before)))
    (λ e. absurd (omega (arith, e, zero.before))) ran.all in
    let parties = ran.parties ∙ ap (first_parties peers) all.1 in
    let shown = all-shown ran.family ran.in_order zero.told in
    let ended = all-well ran.family shown zero.ends in
    record {
      parties = parties;
      calls = ran.calls;
      ended = ended;
      lines = lines-shown ran.family out_old out_new ran.shows shown
          ∙ ap (λ lines. out_old.bytes ++ lines)
          (lines-well ran.family shown ended ∙ ap (flat_map (λ party. status_line party (pos 0))) parties);
    }

pub failed : FailedSessions
failed names peers out_old out_new old new ran =
    elim (cause-of ran.stop 9 ran.family (sym ran.code)) [
      | inl stop ↦ inl (ran.rose (or_left (ran.stop == 9) _ (is-nine ran.stop stop)))
      | inr cause ↦ by-why cause cause.why
    ]
  where
    by-why : (cause : Cause 9 ran.family) → Why 9 cause.child → Rose old.faults new.faults ⊎ HasFailed ran.family out_old out_new
    by-why cause (by_wait e) = inl (ran.rose (or_right (ran.stop == 9) _
        (any-there (λ child. is_refused_wait child.ended) ran.family cause.front cause.back cause.child cause.is
        (wait-nine cause.child.ended e))))
    by-why cause (by_line e) = absurd (line-nine cause.child.shown e)
    by-why cause (by_end e) =
        let f = end-nine cause.child.shown cause.child.ended e in
        inr (has-failed ran.family out_old out_new ran.shows (record {
          front = cause.front;
          child = cause.child;
          back = cause.back;
          is = cause.is;
          status = f.0;
          ended = f.1;
          shown = f.2;
          other = f.3;
        }))

pub failed_output : FailedOutputs
failed_output names peers out_old out_new old new ran =
    elim (cause-of ran.stop 7 ran.family (sym ran.code)) [
      | inl stop ↦ absurd (no-stop ran.stop ran.all stop)
      | inr cause ↦ by-why cause cause.why
    ]
  where
    no-stop : (stop : ℕ) → AreAllStarted peers (length ran.family) stop → stop ≡ 7 → ⊥
    no-stop stop (inl all) e = omega (arith, e, all.0)
    no-stop stop (inr (inl nine, few)) e = omega (arith, e, nine)
    no-stop stop (inr (inr memory, few)) e = omega (arith, e, memory)

    by-why : (cause : Cause 7 ran.family) → Why 7 cause.child → Rose out_old.faults out_new.faults
    by-why cause (by_wait e) = absurd (wait-seven cause.child.ended e)
    by-why cause (by_line e) = ran.shows.rose
        (any-there (λ child. is_refused child.shown) ran.family cause.front cause.back cause.child cause.is
        (line-seven cause.child.shown e))
    by-why cause (by_end e) = absurd (end-seven cause.child.shown cause.child.ended e)

pub faultless : FaultlessSessions
faultless names peers out_old out_new old new status ran spawner out =
    elim (cases_eq status 70) [ inl memory ↦ inl memory | inr other ↦ inr (told other) ]
  where
    told : status ≢ 70 → IsToldByChildren peers ran.family out_old out_new status
    told other =
        let waits = or_parts (ran.stop == 9) (list_any (λ child. is_refused_wait child.ended) ran.family) (ran.refused spawner) in
        let kept = kept-told ran.stop ran.family (λ e. other (ran.code ∙ e)) waits.1 (ran.shows.refused out) in
        let all = all-started peers (length ran.family) ran.stop (not-nine ran.stop waits.0) kept.0 ran.all in
        let shown = all-shown ran.family ran.in_order kept.1 in
        let code = ran.code ∙ ap (λ stop. with_children stop ran.family) all.0 in
        record {
          parties = ran.parties ∙ ap (first_parties peers) all.1;
          shown = shown;
          lines = lines-shown ran.family out_old out_new ran.shows shown;
          told = elim (shown-ending ran.family shown) [
            | inl well ↦ inl (code ∙ well.0, well.1)
            | inr failure ↦ inr (code ∙ failure.0, has-failed ran.family out_old out_new ran.shows failure.1)
          ];
        }
