use Rattle.std.proofs.Common.{◌≡◌, ◌≤◌, ◌+◌, ◌∙◌, ℕ, true, not, is_some, sym, ap, subst, arith}
use Rattle.std.proofs.lemmas.Bool.{le-leb, leb-true}
use Rattle.bar_window.specs.declared.exchange.Exchange.{Exchange}
use Rattle.bar_window.specs.declared.exchange.Role.TheVariants.{Initiator}
use Rattle.bar_window.specs.Code.Window.{members}
use Rattle.bar_wire.specs.declared.kind.Kind.TheVariants as kinds
use Rattle.bar_rules.specs.Peer.Admission.{meets_commitment}
use Rattle.bar_rules.specs.Peer.Agreement.{IsRecent}
use Rattle.bar_rules.specs.Peer.Knowledge.{has_heard_of, is_in_time}
use Rattle.bar_rules.specs.Values.{datagram_bytes}
use Rattle.bar_window.specs.declared.exchange.XKind.TheVariants.{Balanced}
use Rattle.bar_wire.specs.Datagram.{exchange_by}
use Rattle.bar_wire.specs.Code.Views.{IsWindowIn}
use Rattle.bar_exchange.proofs.FourTests.{fails_third, first_of_four}
use Rattle.bar_balanced.proofs.divulge.admits_divulge.Goals as goal
use Rattle.bar_bytes.proofs.Options.{some-mapped}

pub returns-then-not-has_digests : goal.returns-then-not-has_digests
returns-then-not-has_digests c me k from to r holds h spelled life is windows =
    let x : Exchange = exchange_by r Balanced Initiator from to in
    fails_third (meets_commitment me k x c.args.nonce.now (members c.args.ha.now)) (not (has_heard_of k kinds.Divulge x Initiator)) _
    (is_in_time me.session k kinds.Divulge r)
    (sym (c.has_digests.ensures me k holds) ∙ search)

pub returns : goal.returns
returns c me k from to r holds h spelled life is windows =
    let round : c.args.x.round ≡ r = ap (λ (x : Exchange). x.round) is in
    let by : c.args.ledger.now.round ≤ c.args.x.round + 2 = leb-true _ _ (sym c.is_within.ensures ∙ c.if-not-is_within.false) in
    let recent : IsRecent me k c.args.x.round = omega (arith, h.round) in
    let unheard : not (has_heard_of k kinds.Divulge c.args.x Initiator) ≡ true =
    ap not (sym (some-mapped (datagram_bytes me.session) (k.heard kinds.Divulge c.args.x Initiator)) ∙ ap (λ o. is_some o) (h.heard kinds.Divulge c.args.x Initiator recent) ∙ sym c.has_heard.ensures ∙ c.if-has_heard.false)
    in
    let here : IsWindowIn me.session.shape c.args.x.round c.args.ha.now =
    subst (λ (r : ℕ). IsWindowIn me.session.shape r c.args.ha.now) (sym round) windows
    in
    first_of_four _ _ _ (is_in_time me.session k kinds.Divulge r) _
    ((λ i. not (has_heard_of k kinds.Divulge (sym is i) Initiator)) ∙ unheard)
    (sym (c.has_digests.ensures me k holds) ∙ search)
    (le-leb _ _ (omega (arith, h.round)))
    (c.meets_commitment.ensures me k h spelled recent here ∙ ap (λ (x : Exchange). meets_commitment me k x c.args.nonce.now (members c.args.ha.now)) is)
