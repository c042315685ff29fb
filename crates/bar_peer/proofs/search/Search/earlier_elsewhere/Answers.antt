use Rattle.std.proofs.Common.{◌≡◌, ◌∙◌, ◌≤◌, ◌∷◌, [], List, ℕ, sym, ap}
use Rattle.std.specs.Prelude.{option_map}
use Rattle.bar_lms.specs.Schemes.{named_by}
use Rattle.bar_wire.specs.Datagram.{Datagram}
use Rattle.bar_wire.specs.Code.Sides.{place_in}
use Rattle.bar_wire.specs.Code.Views.{signature_bytes}
use Rattle.bar_rules.specs.Member.{Member}
use Rattle.bar_rules.specs.Values.{leaf_named}
use Rattle.bar_rules.specs.Verifiers.{NamesLeavesOf}
use Rattle.bar_ledger.specs.declared.ledger.Ledger.{Ledger}
use Rattle.bar_peer.specs.Code.Searching.{searched, searcher}
use Rattle.bar_peer.proofs.Faults.OtherExchanges.{IsTriedElsewhere, elsewhere_is, few_rounds}
use Rattle.bar_peer.proofs.Faults.Search.{stands_at}
use Rattle.bar_peer.proofs.search.Search.earlier_elsewhere.Goals as goal

pub returns : goal.returns
returns g c k goes =
    let s = c.args.self.now in
    let me : Member = searcher s in
    let d : Datagram = searched s in
    let l : Ledger = s.ledger.now in
    let bytes : List ℕ = s.arrival.now.bytes.now in
    let named : List ℕ → ℕ = g.V.Verifier.leaf_named c.verifier-verifier.result.now in
    let len : ℕ = g.V.Verifier.signature_len c.verifier-verifier.result.now in
    let law : NamesLeavesOf me.session named len = record {
      names = λ sig. (λ i. g.V.Verifier.leaf_named (c.verifier-verifier.ensures i) sig) ∙ c.requires.search.guards.names.names sig;
      length_is = (λ i. g.V.Verifier.signature_len (c.verifier-verifier.ensures i)) ∙ c.requires.search.guards.names.length_is;
    }
    in
    let leaf_is : c.leaf_in-leaf.result ≡ leaf_named me.session d =
    c.leaf_in-leaf.ensures ∙ law.names c.in_ok-sig.sig.now ∙ ap (λ o. named_by me.session.top me.session.params (signature_bytes o)) (sym c.in_ok-sig.was)
    in
    let told : IsTriedElsewhere me k l d bytes named len c.leaf_in-leaf.result =
    record { recalls = goes.recalls; sound = goes.sound; bytes_are = c.requires.search.read.spelled.is; law = law; leaf_is = leaf_is }
    in
    let fits : l.round ≤ 4294967037 = few_rounds me k l d goes.recalls s.who.now.is_member goes.tried c.requires.search.read.spelled.fits in
    ap (λ o. option_map (λ heard. heard ∷ bytes ∷ []) o) (c.naming_elsewhere.ensures fits)
    ∙ elsewhere_is me k l d bytes named len c.leaf_in-leaf.result told (place_in c.args.place) c.others_are_tried_by_leaves.ensures goes.tried c.requires.search.read.spelled.fits
    (stands_at k s goes c.requires.search.read c.requires.search.signed c.args.place c.requires.place)
