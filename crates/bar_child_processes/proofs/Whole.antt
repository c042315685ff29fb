-- A session's children, from the starts to the last wait.
use Rattle.std.proofs.Common.{◌≡◌, ◌++◌, ◌==◌, ℕ, List, true, false, map, length, sym, ap, ◌∙◌, subst, append_assoc, inl, inr, arith}
use Rattle.std.specs.List.{list_any}
use Rattle.std.proofs.lemmas.Bool.{or_cases, or_from}
use Rattle.std.proofs.lemmas.Bool.Decides.{nat_tests}
use Rattle.std.proofs.lemmas.List.{length-map}
use Rattle.std.proofs.lemmas.Simd.{map-map}
use Rattle.bar_outside.specs.Code.Children.{Children}
use Rattle.bar_outside.specs.Stream.{Stream}
use Rattle.bar_child_processes.specs.Family.{ReportData, is_refused_wait, start_of, wait_of}
use Rattle.bar_child_processes.specs.Names.{SessionNames}
use Rattle.bar_child_processes.specs.Sessions.{AreAllStarted, Reports, SessionRan, StartsAll, key_of}
use Rattle.bar_child_processes.specs.Words.{first_parties}
use Rattle.bar_child_processes.proofs.MoreChildren.{rose-before, rose-behind}
use Rattle.bar_child_processes.proofs.Starting.{start_in}

is-nine : (stop : ℕ) → (stop == 9) ≡ true → stop ≡ 9
is-nine stop h = grind (arith, nat_tests)

not-nine : (stop : ℕ) → (stop ≡ 9 → ⊥) → (stop == 9) ≡ false
not-nine stop h = grind (arith, nat_tests)

-- children were started, and the started ones were waited for
pub session-ran : (names : SessionNames) (peers : ℕ) (keys : List (ℕ × ℕ)) (stop : ℕ) (now : ReportData) (out_old out_new : Stream)
    (old mid new : Children) → StartsAll names peers keys old mid stop →
    Reports keys (record { code = stop; prints = true }) now out_old out_new mid new →
    SessionRan names peers out_old out_new old new now.code
session-ran names peers keys stop now out_old out_new old mid new s r =
    let count : length keys ≡ length r.family = ap length (sym r.are) ∙ length-map r.family key_of in
    record {
      family = r.family;
      parties = sym (map-map (λ (key : ℕ × ℕ). key.0) key_of r.family)
          ∙ (ap (map (λ (key : ℕ × ℕ). key.0)) r.are ∙ (s.parties ∙ ap (first_parties peers) count));
      stop = stop;
      all = subst (λ (n : ℕ). AreAllStarted peers n stop) count s.all;
      calls = r.waits.calls
          ∙ (ap (λ calls. calls ++ map wait_of r.family)
          (s.calls ∙ ap (λ calls. old.calls ++ calls)
          (ap (map (start_in names)) (sym r.are) ∙ map-map (start_in names) key_of r.family))
          ∙ append_assoc old.calls (map (start_of names) r.family) (map wait_of r.family));
      reliable = r.waits.reliable ∙ s.reliable;
      later = let h = s.later in let k = r.waits.later in omega arith;
      rose = λ e. elim (or_cases (stop == 9) (list_any (λ child. is_refused_wait child.ended) r.family) e) [
        | inl early ↦ rose-before old.faults mid.faults new.faults (s.rose (is-nine stop early)) r.waits.later
        | inr late ↦ rose-behind old.faults mid.faults new.faults s.later (r.waits.rose late)
      ];
      refused = λ reliable. or_from (stop == 9) (list_any (λ child. is_refused_wait child.ended) r.family)
          (not-nine stop (s.refused reliable)) (r.waits.refused (s.reliable ∙ reliable));
      shows = r.shows;
      in_order = r.in_order;
      code = r.code;
    }
