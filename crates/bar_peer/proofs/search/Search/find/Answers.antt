use Rattle.std.proofs.Common.{◌∙◌, true, false, Some, None, sym, refl}
use Rattle.std.specs.Prelude.{option_map}
use Rattle.bar_wire.specs.Evidence.{datagrams_of}
use Rattle.bar_peer.proofs.Faults.Search.{new_is}
use Rattle.bar_peer.proofs.search.Search.find.Goals as goal

pub returns-then-is_some-clause-exact : goal.returns-then-is_some-clause-exact
returns-then-is_some-clause-exact g c k goes =
    sym (new_is k c.args.self.now goes c.requires.search.read c.requires.search.signed c.found-alone.result true _ c.the_datagram_is_spelled.ensures c.verdicts_are_what_is_found.ensures c.found-alone.ensures.exact c.if-is_some.ensures refl)

pub returns-in_err-place-clause-exact : goal.returns-in_err-place-clause-exact
returns-in_err-place-clause-exact g c k goes =
    (λ i. option_map datagrams_of (c.from_residual.ensures i))
    ∙ sym (new_is k c.args.self.now goes c.requires.search.read c.requires.search.signed c.found-alone.result false None c.the_datagram_is_spelled.ensures c.verdicts_are_what_is_found.ensures
    c.found-alone.ensures.exact
    c.if-is_some.ensures
    c.in_err-place.was)

pub returns-in_err-heard-clause-exact : goal.returns-in_err-heard-clause-exact
returns-in_err-heard-clause-exact g c k goes =
    (λ i. option_map datagrams_of (c.from_residual-in_err-heard.ensures i))
    ∙ c.in_err-heard.ensures.exact k goes
    ∙ sym (new_is k c.args.self.now goes c.requires.search.read c.requires.search.signed c.found-alone.result false (Some c.in_ok-place.place) c.the_datagram_is_spelled.ensures
    c.verdicts_are_what_is_found.ensures
    c.found-alone.ensures.exact
    c.if-is_some.ensures
    c.in_ok-place.was)

pub returns-clause-exact : goal.returns-clause-exact
returns-clause-exact g c k goes =
    c.in_ok-heard.ensures.exact k goes
    ∙ sym (new_is k c.args.self.now goes c.requires.search.read c.requires.search.signed c.found-alone.result false (Some c.in_ok-place.place) c.the_datagram_is_spelled.ensures
    c.verdicts_are_what_is_found.ensures
    c.found-alone.ensures.exact
    c.if-is_some.ensures
    c.in_ok-place.was)
