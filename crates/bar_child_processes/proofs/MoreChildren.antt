-- The calls, lines and status of some children, and then of others.
use Rattle.std.proofs.Common.{◌≡◌, ◌≤◌, ◌∷◌, ◌++◌, ◌&&◌, [], ℕ, zero, suc, List, Bool, true, false, not, true≢false, IsTrue, if◌then◌else◌, map, take, refl, sym, ap, ap₂, ◌∙◌, subst, append-nil, append_assoc, inl, inr, arith}
use Rattle.std.specs.List.{concat, list_any}
use Rattle.std.proofs.lemmas.Bool.{or_cases, or_from, and_parts}
use Rattle.std.proofs.lemmas.List.{map-append}
use Rattle.std.proofs.lemmas.List.Folds.{concat-append, list_any-append}
use Rattle.bar_outside.specs.Code.Causes.{Rose}
use Rattle.bar_outside.specs.Code.Children.{Children}
use Rattle.bar_outside.specs.Stream.{Stream}
use Rattle.bar_child_processes.specs.Family.{Child, ReportData, Shown, Whole, Refused, Wanting, Untried, broken_line, broken_lines, has_status, is_broken, is_in_order, is_refused, is_refused_wait, is_tried, is_whole, line_of, prints_after, wait_of, whole_line, whole_lines, with_child, with_children}
use Rattle.bar_child_processes.specs.Sessions.{Reports, ShowsLines, WaitsForEach, key_of}
use Rattle.bar_child_processes.proofs.OneChild.{none-refused}

-- ---- counts of faults

pub rose-before : (old mid new : ℕ) → Rose old mid → mid ≤ new → Rose old new
rose-before old mid new h k = omega arith

pub rose-behind : (old mid new : ℕ) → old ≤ mid → Rose mid new → Rose old new
rose-behind old mid new h k = omega arith

-- ---- lists of children

pub whole_lines-append : (xs ys : List Child) → whole_lines (xs ++ ys) ≡ whole_lines xs ++ whole_lines ys
whole_lines-append xs ys = ap concat (map-append whole_line xs ys) ∙ concat-append (map whole_line xs) (map whole_line ys)

broken_lines-append : (xs ys : List Child) → broken_lines (xs ++ ys) ≡ broken_lines xs ++ broken_lines ys
broken_lines-append xs ys = ap concat (map-append broken_line xs ys) ∙ concat-append (map broken_line xs) (map broken_line ys)

prints_after-append : (prints : Bool) (xs ys : List Child) → prints_after prints (xs ++ ys) ≡ prints_after (prints_after prints xs) ys
prints_after-append prints [] ys = refl
prints_after-append prints (x ∷ xs) ys = prints_after-append (prints && not (is_broken x.shown)) xs ys

with_children-append : (code : ℕ) (xs ys : List Child) → with_children code (xs ++ ys) ≡ with_children (with_children code xs) ys
with_children-append code [] ys = refl
with_children-append code (x ∷ xs) ys = with_children-append (with_child code x) xs ys

both : (a b c : Bool) → IsTrue a → IsTrue b → IsTrue (a && b)
both true b c h k = k
both false b c h k = h

in_order-append : (prints : Bool) (xs ys : List Child) → IsTrue (is_in_order prints xs) → IsTrue (is_in_order (prints_after prints xs) ys) →
    IsTrue (is_in_order prints (xs ++ ys))
in_order-append prints [] ys h k = k
in_order-append prints (x ∷ xs) ys h k =
    let parts = and_parts (if prints && has_status x.ended then is_tried x.shown else not (is_tried x.shown)) _ h in
    both _ (is_in_order (prints && not (is_broken x.shown)) (xs ++ ys)) true parts.0
    (in_order-append (prints && not (is_broken x.shown)) xs ys parts.1 k)

-- ---- lines

prints_after-none : (xs : List Child) → prints_after false xs ≡ false
prints_after-none [] = refl
prints_after-none (x ∷ xs) = prints_after-none xs

-- if lines are still printed, no line was broken
none-broken : (prints : Bool) (xs : List Child) → IsTrue (prints_after prints xs) → broken_lines xs ≡ []
none-broken prints [] h = refl
none-broken prints (x ∷ xs) h = by-shown (is_broken x.shown) refl (none-broken (prints && not (is_broken x.shown)) xs h)
  where
    by-shown : (broken : Bool) → is_broken x.shown ≡ broken → broken_lines xs ≡ [] → broken_lines (x ∷ xs) ≡ []
    by-shown false e rest = ap (λ (b : Bool). (if b then line_of x else []) ++ broken_lines xs) e ∙ rest
    by-shown true e rest =
        let stops : (prints && not (is_broken x.shown)) ≡ false = ap (λ b. prints && not b) e ∙ none-refused prints in
        absurd (true≢false (sym h ∙ (ap (λ b. prints_after b xs) stops ∙ prints_after-none xs)))

untried : (shown : Shown) → IsTrue (not (is_tried shown)) → (is_whole shown ≡ false) × (is_broken shown ≡ false)
untried Whole h = absurd (true≢false (sym h))
untried Refused h = absurd (true≢false (sym h))
untried Wanting h = absurd (true≢false (sym h))
untried Untried h = (refl, refl)

-- if lines are no longer printed, no line is whole or broken
silent : (xs : List Child) → IsTrue (is_in_order false xs) → (whole_lines xs ≡ []) × (broken_lines xs ≡ [])
silent [] h = (refl, refl)
silent (x ∷ xs) h =
    let parts = and_parts (not (is_tried x.shown)) (is_in_order false xs) h in
    let quiet = untried x.shown parts.0 in
    let rest = silent xs parts.1 in (
      ap (λ (b : Bool). (if b then line_of x else []) ++ whole_lines xs) quiet.0 ∙ rest.0,
      ap (λ (b : Bool). (if b then line_of x else []) ++ broken_lines xs) quiet.1 ∙ rest.1,
    )

pub take-nil : (k : ℕ) (bytes : List ℕ) → bytes ≡ [] → take k bytes ≡ []
take-nil zero bytes e = refl
take-nil (suc k) bytes e = ap (take (suc k)) e

-- whole lines, and then others
whole-then : (old mid new first later rest : List ℕ) → mid ≡ old ++ (first ++ []) → new ≡ mid ++ (later ++ rest) →
    new ≡ old ++ ((first ++ later) ++ rest)
whole-then old mid new first later rest h k =
    k ∙ (ap (λ b. b ++ (later ++ rest)) (h ∙ ap (λ b. old ++ b) (append-nil first)) ∙ simp append_assoc)

-- lines the last of which may be broken, and then none
broken-then : (old mid new first part : List ℕ) → mid ≡ old ++ (first ++ part) → new ≡ mid ++ ([] ++ []) →
    new ≡ old ++ ((first ++ []) ++ part)
broken-then old mid new first part h k = k ∙ (append-nil mid ∙ (h ∙ ap (λ b. old ++ (b ++ part)) (sym (append-nil first))))

module _ (xs ys : List Child) (old mid new : Stream) (first : ShowsLines xs old mid) (second : ShowsLines ys mid new) where
  bytes-append : (prints : Bool) → IsTrue (is_in_order (prints_after prints xs) ys) →
      (k : ℕ) × (new.bytes ≡ old.bytes ++ (whole_lines (xs ++ ys) ++ take k (broken_lines (xs ++ ys))))
  bytes-append prints in_order = by-prints (prints_after prints xs) refl first.bytes second.bytes
    where
      by-prints : (after : Bool) → prints_after prints xs ≡ after →
          (k : ℕ) × (mid.bytes ≡ old.bytes ++ (whole_lines xs ++ take k (broken_lines xs))) →
          (k : ℕ) × (new.bytes ≡ mid.bytes ++ (whole_lines ys ++ take k (broken_lines ys))) →
          (k : ℕ) × (new.bytes ≡ old.bytes ++ (whole_lines (xs ++ ys) ++ take k (broken_lines (xs ++ ys))))
      by-prints true e one two =
          let none = none-broken prints xs e in
          let broken : broken_lines (xs ++ ys) ≡ broken_lines ys = broken_lines-append xs ys ∙ ap (λ b. b ++ broken_lines ys) none in (
            two.0,
            whole-then old.bytes mid.bytes new.bytes (whole_lines xs) (whole_lines ys) (take two.0 (broken_lines ys))
                (one.1 ∙ ap (λ b. old.bytes ++ (whole_lines xs ++ b)) (take-nil one.0 (broken_lines xs) none)) two.1
                ∙ ap₂ (λ w b. old.bytes ++ (w ++ take two.0 b)) (sym (whole_lines-append xs ys)) (sym broken),
          )
      by-prints false e one two =
          let quiet = silent ys (subst (λ (p : Bool). IsTrue (is_in_order p ys)) e in_order) in
          let whole : whole_lines (xs ++ ys) ≡ whole_lines xs ++ [] = whole_lines-append xs ys ∙ ap (λ b. whole_lines xs ++ b) quiet.0 in
          let broken : broken_lines (xs ++ ys) ≡ broken_lines xs =
          broken_lines-append xs ys ∙ (ap (λ b. broken_lines xs ++ b) quiet.1 ∙ append-nil (broken_lines xs)) in (
            one.0,
            broken-then old.bytes mid.bytes new.bytes (whole_lines xs) (take one.0 (broken_lines xs)) one.1
                (two.1 ∙ ap₂ (λ w b. mid.bytes ++ (w ++ b)) quiet.0 (take-nil two.0 (broken_lines ys) quiet.1))
                ∙ ap₂ (λ w b. old.bytes ++ (w ++ take one.0 b)) (sym whole) (sym broken),
          )

  shows-append : (prints : Bool) → IsTrue (is_in_order (prints_after prints xs) ys) → ShowsLines (xs ++ ys) old new
  shows-append prints in_order =
      let refusals = list_any-append (λ child. is_refused child.shown) xs ys in
      record {
        reliable = second.reliable ∙ first.reliable;
        later = let h = first.later in let k = second.later in omega arith;
        rose = λ e. elim (or_cases _ (list_any (λ child. is_refused child.shown) ys) (sym refusals ∙ e)) [
          | inl early ↦ rose-before old.faults mid.faults new.faults (first.rose early) second.later
          | inr late ↦ rose-behind old.faults mid.faults new.faults first.later (second.rose late)
        ];
        refused = λ reliable. refusals ∙ or_from _ _ (first.refused reliable) (second.refused (first.reliable ∙ reliable));
        bytes = bytes-append prints in_order;
      }

-- ---- waits

waits-append : (xs ys : List Child) (old mid new : Children) → WaitsForEach xs old mid → WaitsForEach ys mid new →
    WaitsForEach (xs ++ ys) old new
waits-append xs ys old mid new first second =
    let refusals = list_any-append (λ child. is_refused_wait child.ended) xs ys in
    record {
      reliable = second.reliable ∙ first.reliable;
      later = let h = first.later in let k = second.later in omega arith;
      rose = λ e. elim (or_cases _ (list_any (λ child. is_refused_wait child.ended) ys) (sym refusals ∙ e)) [
        | inl early ↦ rose-before old.faults mid.faults new.faults (first.rose early) second.later
        | inr late ↦ rose-behind old.faults mid.faults new.faults first.later (second.rose late)
      ];
      refused = λ reliable. refusals ∙ or_from _ _ (first.refused reliable) (second.refused (first.reliable ∙ reliable));
      calls = second.calls
          ∙ (ap (λ calls. calls ++ map wait_of ys) first.calls
          ∙ (append_assoc old.calls (map wait_of xs) (map wait_of ys) ∙ ap (λ calls. old.calls ++ calls) (sym (map-append wait_of xs ys))));
    }

-- ---- reports

-- nothing so far
pub reports-none : (was : ReportData) (out : Stream) (children : Children) → Reports [] was was out out children children
reports-none was out children = record {
  family = [];
  are = refl;
  waits = record {
    reliable = refl;
    later = omega arith;
    rose = λ e. absurd (true≢false (sym e));
    refused = λ reliable. refl;
    calls = sym (append-nil children.calls);
  };
  shows = record {
    reliable = refl;
    later = omega arith;
    rose = λ e. absurd (true≢false (sym e));
    refused = λ reliable. refl;
    bytes = (0, sym (append-nil out.bytes));
  };
  in_order = refl;
  prints = refl;
  code = refl;
}

-- some, and then others
pub reports-append : (xs ys : List (ℕ × ℕ)) (was mid now : ReportData) (out_old out_mid out_new : Stream) (old between new : Children) →
    Reports xs was mid out_old out_mid old between → Reports ys mid now out_mid out_new between new →
    Reports (xs ++ ys) was now out_old out_new old new
reports-append xs ys was mid now out_old out_mid out_new old between new first second =
    let in_order = subst (λ (prints : Bool). IsTrue (is_in_order prints second.family)) first.prints second.in_order in
    record {
      family = first.family ++ second.family;
      are = map-append key_of first.family second.family ∙ ap₂ (λ (a b : List (ℕ × ℕ)). a ++ b) first.are second.are;
      waits = waits-append first.family second.family old between new first.waits second.waits;
      shows = shows-append first.family second.family out_old out_mid out_new first.shows second.shows was.prints in_order;
      in_order = in_order-append was.prints first.family second.family first.in_order in_order;
      prints = second.prints
          ∙ (ap (λ prints. prints_after prints second.family) first.prints ∙ sym (prints_after-append was.prints first.family second.family));
      code = second.code
          ∙ (ap (λ code. with_children code second.family) first.code ∙ sym (with_children-append was.code first.family second.family));
    }
