use Rattle.std.proofs.Common.{◌∙◌, Some, ap}
use Rattle.std.specs.Option.{option_or}
use Rattle.bar_wire.specs.Code.Sides.{place_in}
use Rattle.bar_rules.specs.Peer.Evidence.{pairs_elsewhere}
use Rattle.bar_peer.specs.Code.Searching.{searched, searcher}
use Rattle.bar_peer.proofs.search.Search.earlier.Goals as goal

pub returns-in-Some-clause-exact : goal.returns-in-Some-clause-exact
returns-in-Some-clause-exact g c k goes =
    let s = c.args.self.now in
    ap (λ o. option_or o (pairs_elsewhere (searcher s) k (searched s) (Some (place_in c.args.place)))) (c.in-Some.ensures.exact k goes)

pub returns-in-None-clause-exact : goal.returns-in-None-clause-exact
returns-in-None-clause-exact g c k goes =
    let s = c.args.self.now in
    c.earlier_elsewhere.ensures k goes
    ∙ ap (λ o. option_or o (pairs_elsewhere (searcher s) k (searched s) (Some (place_in c.args.place)))) (c.in-None.ensures.exact k goes)
