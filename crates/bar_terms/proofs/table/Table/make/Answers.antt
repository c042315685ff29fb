use Rattle.std.proofs.Common.{◌≡◌, ◌+◌, ◌-◌, [], length, replicate, Option, None, ap, ◌∙◌, ℕ, arith, rules}
use Rattle.bar_terms.specs.Code.Room.{lists_of}
use Rattle.bar_terms.proofs.Lookups.{no_lists}
use Rattle.bar_terms.proofs.table.Table.make.Goals as goal

pub returns : goal.returns
returns c =
    let counts = c.in_ok-counts.counts in
    let digests = c.in_ok-digests.digests in
    let are : counts.items ≡ replicate {A = Option ℕ} (c.args.rounds + 1) None = c.in_ok-counts.ensures.items_if_clones_equal (λ y is. search rules) in
    let none : lists_of counts.items digests.items c.args.per_round ≡ [] = ap (λ items. lists_of items digests.items c.args.per_round) are ∙ no_lists (c.args.rounds + 1) c.args.per_round digests.items in
    let rounds : length counts.items - 1 ≡ c.args.rounds = omega (arith, c.in_ok-counts.ensures.len, counts.ok) in
    λ i. record { lists = none i; rounds = rounds i; per_round = c.args.per_round }
