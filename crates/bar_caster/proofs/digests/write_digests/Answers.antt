-- Each iteration writes the digest of one more block.
use Rattle.std.proofs.Common.{◌≡◌, ◌≤◌, ◌<◌, ◌*◌, ◌++◌, List, ℕ, length, take, refl, sym, ap, ◌∙◌, arith}
use Rattle.std.proofs.lemmas.List.{take_all}
use Rattle.sha2.specs.Sha256.{sha256}
use Rattle.bar_rules.specs.Broadcaster.Stream.{round_blocks}
use Rattle.bar_caster.proofs.Manifests.{digests_of, digests-more}
use Rattle.bar_caster.proofs.digests.write_digests.Goals as goal

pub loop-index-init : goal.loop-index-init
loop-index-init c = record { place = refl; front = λ s same. refl }

pub put_digest-at-requires : goal.put_digest-at-requires
put_digest-at-requires c =
    omega (arith, c.loop-index.invariant.place, c.loop-index-test.true, c.blocks_in-count.ensures.few, c.args.stream.now.few, c.loop-index.auto.out, c.requires.room)

pub loop-index-preserved : goal.loop-index-preserved
loop-index-preserved c =
    let l = c.loop-index in
    record {
      place = omega (arith, l.invariant.place, c.put_digest-at.ensures.end);
      front = λ s same.
          let blocks : List (List ℕ) = round_blocks s c.args.stream.now.bytes.items c.args.round in
          let within : l.index < length blocks = omega (arith, c.loop-index-test.true, c.blocks_in-count.ensures.count s same) in
          c.put_digest-at.ensures.writes.front
          ∙ ap (λ (front : List ℕ). front ++ sha256 c.write_block.new.out) (l.invariant.front s same)
          ∙ sym (digests-more blocks l.index c.write_block.new.out (c.write_block.ensures.block s same within));
    }

pub returns-clause-digests : goal.returns-clause-digests
returns-clause-digests c = λ s same.
    let l = c.loop-index in
    let blocks : List (List ℕ) = round_blocks s c.args.stream.now.bytes.items c.args.round in
    let count : c.blocks_in-count.result ≡ length blocks = c.blocks_in-count.ensures.count s same in
    let end : c.blocks_in-count.result ≤ l.index = grind arith in
    let place : 32 * c.blocks_in-count.result ≡ l.at = omega (arith, l.invariant.place, end, l.auto.index-end) in
    let all : length blocks ≤ l.index = omega (arith, count, end) in
    ap (λ n. take n l.out) place
    ∙ l.invariant.front s same
    ∙ ap digests_of (take_all l.index blocks all)
