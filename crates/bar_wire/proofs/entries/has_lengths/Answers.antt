use Rattle.std.proofs.Common.{◌≡◌, ◌-◌, ◌+◌, length, drop, take, ap, sym, ◌∙◌, subst, arith, List, ℕ, inl, inr}
use Rattle.std.specs.List.{AllByRecursion}
use Rattle.std.proofs.lemmas.Bool.{false≢true}
use Rattle.std.proofs.lemmas.List.{length-drop, length-take}
use Rattle.bar_wire.specs.Grammar.{IsEntryInRange}
use Rattle.bar_wire.specs.Places.{entries_len}
use Rattle.bar_wire.specs.Places.{entries}
use Rattle.bar_wire.proofs.Steps.{len_step, entries_step}
use Rattle.bar_wire.proofs.entries.has_lengths.Goals as goal

pub returns-then-len-eq0 : goal.returns-then-len-eq0
returns-then-len-eq0 c =
    let len = c.split_u16-len.result.0 in
    let after = c.split_u16-len.result.1.now in
    let n = c.args.count - (c.loop.counter + 1) in
    let step = len_step (c.args.count - c.loop.counter) n len c.loop.rest.now after (omega arith) c.split_u16-len.ensures.is (omega arith) in
    let items = entries_step (c.args.count - c.loop.counter) n len c.loop.rest.now after (omega arith) c.split_u16-len.ensures.is (omega arith) in
    let long : length (take len after) ≡ len = omega (arith, length-take len after, c.loop.invariant.0, step, c.split_u16-len.ensures.rest) in (
      λ h. absurd (false≢true h),
      λ h. let all = subst (λ (x : List (List ℕ)). AllByRecursion IsEntryInRange x) items (c.loop.invariant.1.1 h) in
          elim c.then-len-eq0.either [ inl e ↦ absurd (omega (arith, all.0.0, long, e)) | inr big ↦ absurd (omega (arith, all.0.1, long, big.1)) ],
    )

pub split_at-requires : goal.split_at-requires
split_at-requires c =
    let step = len_step (c.args.count - c.loop.counter) (c.args.count - (c.loop.counter + 1)) c.split_u16-len.result.0 c.loop.rest.now c.split_u16-len.result.1.now (omega arith) c.split_u16-len.ensures.is (omega arith) in
    omega (arith, c.loop.invariant.0, step, c.split_u16-len.ensures.rest, c.from.ensures)

pub loop-preserved : goal.loop-preserved
loop-preserved c =
    let len = c.split_u16-len.result.0 in
    let after = c.split_u16-len.result.1.now in
    let n = c.args.count - (c.loop.counter + 1) in
    let step = len_step (c.args.count - c.loop.counter) n len c.loop.rest.now after (omega arith) c.split_u16-len.ensures.is (omega arith) in
    let items = entries_step (c.args.count - c.loop.counter) n len c.loop.rest.now after (omega arith) c.split_u16-len.ensures.is (omega arith) in
    let long : length (take len after) ≡ len = omega (arith, length-take len after, c.loop.invariant.0, step, c.split_u16-len.ensures.rest) in
    let next : c.split_at.result.1.now ≡ drop len after = c.split_at.ensures.back ∙ ap (λ k. drop k after) c.from.ensures in
    let same : length c.split_at.result.1.now ≡ length (drop len after) = ap length next in
    let wants : entries_len n c.split_at.result.1.now ≡ entries_len n (drop len after) = ap (entries_len n) next in
    let others : entries n c.split_at.result.1.now ≡ entries n (drop len after) = ap (entries n) next in (
      omega (arith, c.loop.invariant.0, same, wants, step, length-drop len after, c.split_u16-len.ensures.rest),
      (
        λ h. c.loop.invariant.1.0 (subst (λ (x : List (List ℕ)). AllByRecursion IsEntryInRange x) (sym items) ((omega (arith, long), omega (arith, long)), subst (λ (x : List (List ℕ)). AllByRecursion IsEntryInRange x) others h)),
        λ h. subst (λ (x : List (List ℕ)). AllByRecursion IsEntryInRange x) (sym others) (subst (λ (x : List (List ℕ)). AllByRecursion IsEntryInRange x) items (c.loop.invariant.1.1 h)).1,
      ),
    )
