use Rattle.std.proofs.Common.{◌≡◌, ◌∙◌, ◌+◌, ◌-◌, ◌++◌, List, ℕ, true, false, is_some, sym, ap, arith, refl}
use Rattle.std.specs.List.{flat_map, range_with_len}
use Rattle.bar_peer.specs.Code.Playing.{content_in}
use Rattle.bar_peer.proofs.Giving.Contents.{one_first, one_content, none_played}
use Rattle.bar_peer.proofs.playing.Playing.next.Goals as goal

pub returns-then-is_some-clause-next : goal.returns-then-is_some-clause-next
returns-then-is_some-clause-next c =
    let s = c.args.memory.now.store in
    let p = c.loop-index.self in
    let i = c.loop-index.index in
    let some : is_some c.played.result ≡ true = sym c.is_some.ensures ∙ c.if-is_some.true in
    let content = one_content c.played.result (content_in s p.round i) c.played.ensures some in
    let others : List (List ℕ) = flat_map (content_in s p.round) (range_with_len (i + 1) (p.end - (i + 1))) in (
      content.0,
      ap (λ round. content_in s round i) (sym c.loop-index.invariant.round) ∙ content.1,
      c.loop-index.invariant.left
          ∙ ap (λ next. flat_map (content_in s p.round) (range_with_len next (p.end - next))) c.loop-index.invariant.next
          ∙ one_first s p.round i p.end (omega (arith, c.loop-index-test.true, c.loop-index.invariant.end))
          ∙ ap (λ (xs : List (List ℕ)). xs ++ others) content.1,
    )

pub loop-index-preserved : goal.loop-index-preserved
loop-index-preserved c =
    let s = c.args.memory.now.store in
    let p = c.loop-index.self in
    let i = c.loop-index.index in
    let lacks : is_some c.played.result ≡ false = sym c.is_some.ensures ∙ c.if-is_some.false in
    let none = none_played c.played.result (content_in s p.round i) c.played.ensures lacks in
    let others : List (List ℕ) = flat_map (content_in s p.round) (range_with_len (i + 1) (p.end - (i + 1))) in record {
      next = refl;
      end = c.loop-index.invariant.end;
      round = c.loop-index.invariant.round;
      left = c.loop-index.invariant.left
          ∙ ap (λ next. flat_map (content_in s p.round) (range_with_len next (p.end - next))) c.loop-index.invariant.next
          ∙ one_first s p.round i p.end (omega (arith, c.loop-index-test.true, c.loop-index.invariant.end))
          ∙ ap (λ (xs : List (List ℕ)). xs ++ others) none;
    }
