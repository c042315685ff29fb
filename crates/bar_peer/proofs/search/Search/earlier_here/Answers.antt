use Rattle.std.proofs.Common.{◌∙◌, List, ℕ, Option, ap}
use Rattle.std.specs.Option.{option_or}
use Rattle.bar_wire.specs.declared.kind.Kind.{Kind}
use Rattle.bar_wire.specs.declared.kind.Kind.TheVariants as kinds
use Rattle.bar_wire.specs.declared.place.Place.{Place}
use Rattle.bar_rules.specs.Peer.Evidence.{pair_with}
use Rattle.bar_rules.specs.Peer.Knowledge.{Knowledge, table_of}
use Rattle.bar_peer.specs.declared.search.Search.{Search}
use Rattle.bar_peer.specs.Code.Searching.{searched}
use Rattle.bar_peer.proofs.search.Search.earlier_here.Goals as goal

abbrev behind : Knowledge → Search → Place → Kind → Option (List (List ℕ))
behind k s place kind = pair_with s.who.now.session (table_of k) (searched s) (k.heard kind place.x place.role)

pub returns-in-Some-clause-exact : goal.returns-in-Some-clause-exact
returns-in-Some-clause-exact g c k goes =
    let from : Kind → Option (List (List ℕ)) = behind k c.args.self.now c.args.place in
    ap (λ o. option_or o (option_or (from kinds.Case) (from kinds.Key))) (c.in-Some.ensures.exact k goes ∙ ap from c.opening_kind-opening.ensures)

pub returns-in-Some-case_here-clause-exact : goal.returns-in-Some-case_here-clause-exact
returns-in-Some-case_here-clause-exact g c k goes =
    let from : Kind → Option (List (List ℕ)) = behind k c.args.self.now c.args.place in
    ap (λ o. option_or o (from kinds.Key)) (c.in-Some-case_here.ensures.exact k goes)
    ∙ ap (λ o. option_or o (option_or (from kinds.Case) (from kinds.Key))) (c.in_default.ensures.exact k goes ∙ ap from c.opening_kind-opening.ensures)

pub returns-clause-exact : goal.returns-clause-exact
returns-clause-exact g c k goes =
    let from : Kind → Option (List (List ℕ)) = behind k c.args.self.now c.args.place in
    c.pair_with-2.ensures.exact k goes
    ∙ ap (λ o. option_or o (from kinds.Key)) (c.in_default-case_here.ensures.exact k goes)
    ∙ ap (λ o. option_or o (option_or (from kinds.Case) (from kinds.Key))) (c.in_default.ensures.exact k goes ∙ ap from c.opening_kind-opening.ensures)
