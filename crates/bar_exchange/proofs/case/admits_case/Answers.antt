use Rattle.std.proofs.Common.{◌≡◌, ◌≤◌, ◌+◌, ◌∙◌, ℕ, true, sym, ap, subst, arith}
use Rattle.std.proofs.lemmas.Bool.{le-leb, leb-true}
use Rattle.bar_window.specs.declared.exchange.Exchange.{Exchange}
use Rattle.bar_window.specs.Exchange.{other_role}
use Rattle.bar_wire.specs.Datagram.{exchange_by}
use Rattle.bar_wire.specs.declared.kind.Kind.TheVariants as kinds
use Rattle.bar_wire.specs.Code.Views.{AreTermWindows}
use Rattle.bar_rules.specs.Peer.Admission.{are_terms}
use Rattle.bar_rules.specs.Peer.Agreement.{IsRecent}
use Rattle.bar_rules.specs.Peer.Knowledge.{has_said_of, is_in_time}
use Rattle.bar_rules.specs.Peer.Terms.{terms_of}
use Rattle.bar_ledger.specs.Code.Lookups.{said_in}
use Rattle.bar_wire.proofs.ExchangeBy.{round-by}
use Rattle.bar_exchange.proofs.FourTests.{third_of_four}
use Rattle.bar_exchange.proofs.case.admits_case.Goals as goal

pub returns : goal.returns
returns c me k from to b h life is role windows counts terms =
    let x : Exchange = c.args.x in
    let round : c.args.x.round ≡ b.round = ap (λ (x : Exchange). x.round) is ∙ round-by b.round b.kind c.args.role from to in
    let same : c.args.x ≡ exchange_by b.round b.kind b.role from to = is ∙ (λ i. exchange_by b.round b.kind (sym role i) from to) in
    let by : c.args.ledger.now.round ≤ c.args.x.round + 2 = leb-true _ _ (sym c.is_within.ensures ∙ c.if-not-is_within.false) in
    let recent : IsRecent me k c.args.x.round = omega (arith, h.round) in
    let case_said : c.has_said.result ≡ true = search in
    let terms_same : c.are_terms.result ≡ true = search in
    let said : has_said_of k kinds.Case c.args.x (other_role c.args.role) ≡ true =
    h.said kinds.Case c.args.x (other_role c.args.role) recent ∙ sym (c.has_said.ensures ∙ ap (said_in c.args.ledger.now kinds.Case c.args.x) c.other.ensures) ∙ case_said
    in
    let here : AreTermWindows me.session.shape c.args.x.round c.args.terms.now =
    subst (λ (r : ℕ). AreTermWindows me.session.shape r c.args.terms.now) (sym round) windows
    in
    let known = c.are_terms.ensures me k h recent here in
    third_of_four _ _ _ (is_in_time me.session k kinds.Case b.round) _
    ((λ i. has_said_of k kinds.Case (sym same i) (other_role (role i))) ∙ said)
    ((λ i. are_terms (terms i) (terms_of me k (sym same i))) ∙ sym known ∙ terms_same)
    (le-leb _ _ (omega (arith, h.round)))
    (c.are_promised.ensures me.session b.round b (c.cap.ensures ∙ h.cap) windows role counts terms)
