use Rattle.std.proofs.Common.{◌≡◌, ◌∙◌, List, ℕ, sym, ap}
use Rattle.std.specs.Prelude.{option_copied}
use Rattle.std.proofs.lemmas.Bool.{not-false, not-true}
use Rattle.bar_lms.specs.Schemes.{named_by}
use Rattle.bar_wire.specs.Code.Views.{signature_bytes}
use Rattle.bar_rules.specs.Member.{Member}
use Rattle.bar_rules.specs.Values.{leaf_named}
use Rattle.bar_rules.specs.Verifiers.{NamesLeavesOf}
use Rattle.bar_peer.specs.Code.Searching.{searched, searcher}
use Rattle.bar_peer.proofs.Faults.Keys.{none_again}
use Rattle.bar_peer.proofs.search.Search.is_key_again.Goals as goal

pub returns : goal.returns
returns g c again k goes =
    let s = c.args.self.now in
    let me : Member = searcher s in
    let named : List ℕ → ℕ = g.V.Verifier.leaf_named c.verifier-verifier.result.now in
    let len : ℕ = g.V.Verifier.signature_len c.verifier-verifier.result.now in
    let law : NamesLeavesOf me.session named len = record {
      names = λ sig. (λ i. g.V.Verifier.leaf_named (c.verifier-verifier.ensures i) sig) ∙ c.requires.search.guards.names.names sig;
      length_is = (λ i. g.V.Verifier.signature_len (c.verifier-verifier.ensures i)) ∙ c.requires.search.guards.names.length_is;
    }
    in
    let leaf_is : c.leaf_in.result ≡ leaf_named me.session (searched s) =
    c.leaf_in.ensures ∙ law.names c.in-Some-sig.sig.now ∙ ap (λ o. named_by me.session.top me.session.params (signature_bytes o)) (sym c.in-Some-sig.is)
    in
    none_again k s goes c.requires.search.read c.requires.search.signed c.args.place c.in-Some.key.now c.in-Some-heard_from.case.now named len
    c.leaf_in.result
    c.the_datagram_is_spelled.ensures
    c.verdicts_are_what_is_found.ensures
    c.requires.place
    (sym c.heard_from.ensures ∙ ap option_copied c.in-Some.is)
    (not-false _ (sym c.ne.ensures ∙ c.if-ne.false))
    (sym c.heard_from-2.ensures ∙ ap option_copied c.in-Some-heard_from.is)
    law
    leaf_is
    (sym c.names.ensures ∙ not-true _ again)
