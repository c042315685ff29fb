use Rattle.std.proofs.Common.{refl, ◌≡◌, ◌+◌, ◌*◌, replicate, Option, None, ap, ◌∙◌, rules}
use Rattle.bar_store.specs.declared.kept_block.KeptBlock.{KeptBlock}
use Rattle.bar_store.specs.Code.Rooms.{block_at}
use Rattle.bar_store.specs.Code.Held.{block_in}
use Rattle.bar_terms.specs.Code.Room.{TableWithRoom}
use Rattle.bar_store.proofs.Learns.{starts}
use Rattle.bar_store.proofs.Ring.{none_in}
use Rattle.bar_store.proofs.store.Store.make.Goals as goal

pub returns-clause-blocks : goal.returns-clause-blocks
unfolding block_in
returns-clause-blocks c u =
    let items : c.in_ok-rooms.rooms.items ≡ replicate {A = Option KeptBlock} ((c.from.result + 3) * c.from-2.result) None = c.in_ok-rooms.ensures.items_if_clones_equal (λ y is. search rules) in
    ap (λ rooms. block_at c.args.life c.args.per_round 0 rooms u) items ∙ none_in c.args.life c.args.per_round 0 _ u

pub returns-clause-starts : goal.returns-clause-starts
returns-clause-starts c = starts _ (ap (λ (t : TableWithRoom). t.lists) c.in_ok-table.ensures) refl (returns-clause-blocks c)
