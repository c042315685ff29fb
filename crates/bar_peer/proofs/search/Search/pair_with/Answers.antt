use Rattle.std.proofs.Common.{◌≡◌, ◌∙◌, List, ℕ, true, false, None, is_some, sym, ap}
use Rattle.std.specs.Prelude.{option_copied, option_map}
use Rattle.bar_wire.specs.Places as places
use Rattle.bar_wire.specs.Code.Views.{datagram}
use Rattle.bar_rules.specs.Values.{datagram_of}
use Rattle.bar_rules.specs.Peer.Knowledge.{Knowledge}
use Rattle.bar_peer.specs.Code.Searching.{GoesBy, pair_behind, searched}
use Rattle.bar_peer.proofs.Faults.Trials.{IsRecalled}
use Rattle.bar_peer.proofs.Faults.Search.{heard_is_read, pair_found, recalled_at, unheard, unpaired}
use Rattle.bar_peer.proofs.search.Search.pair_with.Given.{Over}
use Rattle.bar_peer.proofs.search.Search.pair_with.Goals as goal
use Rattle.bar_peer.proofs.search.Search.pair_with.Goals.{After-is_peer_kind}

pub returns-in_err-heard-clause-exact : goal.returns-in_err-heard-clause-exact
returns-in_err-heard-clause-exact g c k goes =
    let s = c.args.self.now in
    (λ i. pair_behind s (c.from_residual.ensures i))
    ∙ sym (unheard k s goes c.requires.search.read c.requires.search.signed c.args.kind c.args.place c.requires.place
    (sym c.heard_from.ensures ∙ ap option_copied c.in_err-heard.was))

pub returns-in_err-earlier-clause-exact : goal.returns-in_err-earlier-clause-exact
returns-in_err-earlier-clause-exact g c k goes =
    let s = c.args.self.now in
    let heard : List ℕ = c.in_ok-heard.heard.now in
    let unread : datagram_of s.who.now.session heard ≡ None =
    (λ i. places.datagram_of (sym c.shape.ensures.value i) heard)
    ∙ sym c.decode.ensures.told
    ∙ ap (option_map (datagram c.shape.result)) (sym c.ok.ensures.value ∙ c.in_err-earlier.was)
    in
    absurd
    (heard_is_read k s goes c.requires.search.read c.requires.search.signed c.args.kind c.args.place heard c.the_datagram_is_spelled.ensures
    c.requires.place
    (sym c.heard_from.ensures ∙ ap option_copied c.in_ok-heard.was)
    unread)

-- the datagram that is decoded from the heard bytes was heard
was : (g : Over) (c : After-is_peer_kind g) (k : Knowledge) → GoesBy k c.args.self.now
    → IsRecalled c.args.self.now.who.now.session (searched c.args.self.now) (k.heard c.args.kind c.args.place.x c.args.place.role)
    c.in_ok-heard.heard.now (datagram c.args.self.now.who.now.session.shape c.in_ok-earlier.earlier)
was g c k goes =
    recalled_at k c.args.self.now goes c.requires.search.read c.requires.search.signed c.args.kind c.args.place c.in_ok-earlier.earlier
    c.in_ok-heard.heard.now
    c.shape.result
    _
    c.the_datagram_is_spelled.ensures
    c.requires.place
    (sym c.heard_from.ensures ∙ ap option_copied c.in_ok-heard.was)
    c.in_ok-earlier.ensures.value
    c.decode.ensures.told
    c.shape.ensures.value

pub returns-then-not-is_peer_kind-clause-exact : goal.returns-then-not-is_peer_kind-clause-exact
returns-then-not-is_peer_kind-clause-exact g c k goes =
    sym (unpaired k c.args.self.now goes c.requires.search.read c.requires.search.signed _ c.in_ok-heard.heard.now _ c.the_datagram_is_spelled.ensures
    (was g (goal.at.returns-then-not-is_peer_kind-clause-exact g c).After-is_peer_kind k goes)
    (sym c.is_peer_kind.ensures ∙ c.if-not-is_peer_kind.true))

pub returns-in_err-found-clause-exact : goal.returns-in_err-found-clause-exact
returns-in_err-found-clause-exact g c k goes =
    (λ i. pair_behind c.args.self.now (c.from_residual-in_err-found.ensures i))
    ∙ pair_found k c.args.self.now goes c.requires.search.read c.requires.search.signed _ c.in_ok-heard.heard.now _ c.the_datagram_is_spelled.ensures
    (was g (goal.at.returns-in_err-found-clause-exact g c).After-is_peer_kind k goes)
    c.verdicts_are_what_is_found.ensures
    (sym c.is_peer_kind.ensures ∙ c.if-not-is_peer_kind.false)
    c.found.result
    false
    c.found.ensures.exact
    (ap is_some c.in_err-found.was)

pub returns-clause-exact : goal.returns-clause-exact
returns-clause-exact g c k goes =
    pair_found k c.args.self.now goes c.requires.search.read c.requires.search.signed _ c.in_ok-heard.heard.now _ c.the_datagram_is_spelled.ensures
    (was g (goal.at.returns-clause-exact g c).After-is_peer_kind k goes)
    c.verdicts_are_what_is_found.ensures
    (sym c.is_peer_kind.ensures ∙ c.if-not-is_peer_kind.false)
    c.found.result
    true
    c.found.ensures.exact
    (ap is_some c.in_ok-found.was)
