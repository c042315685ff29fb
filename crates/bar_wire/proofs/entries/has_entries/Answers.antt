use Rattle.std.proofs.Common.{◌≡◌, ◌-◌, ◌+◌, length, drop, ap, ◌∙◌, arith}
use Rattle.std.proofs.lemmas.Bool.{false≢true}
use Rattle.std.proofs.lemmas.List.{length-drop}
use Rattle.bar_wire.specs.Places.{entries_len}
use Rattle.bar_wire.proofs.Steps.{len_step, entries_least}
use Rattle.bar_wire.proofs.entries.has_entries.Goals as goal

pub returns-then-rest-lt2 : goal.returns-then-rest-lt2
returns-then-rest-lt2 c =
    let n = c.args.count - c.loop.counter in
    (λ h. absurd (false≢true h), λ h. absurd (omega (arith, c.loop.invariant.1 h, entries_least n c.loop.rest.now (omega arith))))

pub returns-then-after-len : goal.returns-then-after-len
returns-then-after-len c =
    let len = c.split_u16-len.result.0 in
    let after = c.split_u16-len.result.1.now in
    let step = len_step (c.args.count - c.loop.counter) (c.args.count - (c.loop.counter + 1)) len c.loop.rest.now after (omega arith) c.split_u16-len.ensures.is (omega arith) in
    (λ h. absurd (false≢true h), λ h. absurd (omega (arith, c.loop.invariant.1 h, step, c.split_u16-len.ensures.rest, c.if-after-len.true, c.from-len.ensures)))

pub loop-preserved : goal.loop-preserved
loop-preserved c =
    let len = c.split_u16-len.result.0 in
    let after = c.split_u16-len.result.1.now in
    let n = c.args.count - (c.loop.counter + 1) in
    let step = len_step (c.args.count - c.loop.counter) n len c.loop.rest.now after (omega arith) c.split_u16-len.ensures.is (omega arith) in
    let next : c.split_at.result.1.now ≡ drop len after = c.split_at.ensures.back ∙ ap (λ k. drop k after) c.from-len.ensures in
    let long : length (drop len after) + len ≡ length after = omega (arith, length-drop len after, c.if-after-len.false, c.from-len.ensures) in
    let same : length c.split_at.result.1.now ≡ length (drop len after) = ap length next in
    let wants : entries_len n c.split_at.result.1.now ≡ entries_len n (drop len after) = ap (entries_len n) next in (
      λ h. c.loop.invariant.0 (omega (arith, h, same, wants, step, long, c.split_u16-len.ensures.rest)),
      λ h. omega (arith, c.loop.invariant.1 h, same, wants, step, long, c.split_u16-len.ensures.rest),
    )
