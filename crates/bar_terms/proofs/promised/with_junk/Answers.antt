use Rattle.std.proofs.Common.{◌≡◌, ◌+◌, ◌∷◌, ◌++◌, [], take, map, sym, ap, ◌∙◌, append_assoc, arith}
use Rattle.std.specs.List.{range_with_len}
use Rattle.std.proofs.Math.ListN.{set}
use Rattle.std.proofs.lemmas.List.{take_more_set, length-set}
use Rattle.std.proofs.lemmas.List.FromFn.{map-range_with_len_more}
use Rattle.bar_terms.specs.declared.items.Item.TheVariants.{Junk}
use Rattle.bar_terms.proofs.promised.with_junk.Goals as goal

pub loop-number-preserved : goal.loop-number-preserved
loop-number-preserved c =
    let now = c.loop-number in
    let items = c.args.promise.items in
    let len = c.args.promise.len in
    let at : c.from.result ≡ len + now.number = c.from.ensures in
    let last : len + (now.number + 1) ≡ (len + now.number) + 1 = omega arith in
    let junk = map Junk (range_with_len 0 now.number) in
    let more : map Junk (range_with_len 0 (now.number + 1)) ≡ junk ++ Junk now.number ∷ [] = map-range_with_len_more Junk 0 now.number now.number (omega arith) in
    record {
      long = length-set now.items c.from.result (Junk now.number) ∙ now.invariant.long;
      done = (λ i. take (last i) (set now.items (at i) (Junk now.number)))
          ∙ take_more_set now.items (len + now.number) (Junk now.number) (omega (arith, now.invariant.long, c.requires, c.loop-number-test.true))
          ∙ ap (λ xs. xs ++ Junk now.number ∷ []) now.invariant.done
          ∙ append_assoc (take len items) junk (Junk now.number ∷ [])
          ∙ ap (λ xs. take len items ++ xs) (sym more);
    }
