use Rattle.std.proofs.Common.{◌≡◌, ◌∙◌, ℕ, Option, Some, length, sym, ap, subst}
use Rattle.std.proofs.lemmas.Bool.{false≢true}
use Rattle.std.proofs.lemmas.List.Elements.{recursion_from_All}
use Rattle.std.specs.Prelude.{option_map, IfSome}
use Rattle.bar_window.specs.declared.exchange.Role.{Role}
use Rattle.bar_window.specs.Terms.{Terms, plain_terms}
use Rattle.bar_terms.specs.Terms.{promised_updates, promised_junk}
use Rattle.bar_seeds.specs.Derived as derived
use Rattle.bar_wire.specs.Datagram.{Case}
use Rattle.bar_wire.specs.declared.shape.Shape.{Shape}
use Rattle.bar_wire.specs.Code.Views.{AreTermWindows}
use Rattle.bar_case.specs.Sealed as sealing
use Rattle.bar_case.proofs.Blocks.{sealed_same}
use Rattle.bar_rules.specs.Member.{Session}
use Rattle.bar_rules.specs.Secrets.{briefcase_key}
use Rattle.bar_rules.specs.Peer.Exchanges.{role_of}
use Rattle.bar_rules.specs.Peer.Orders.{case_body}
use Rattle.bar_rules.specs.Peer.Terms.{terms_of}
use Rattle.bar_store.specs.Code.Held.{block_in}
use Rattle.bar_exchange.specs.Code.Writing.{IsSealable, bytes_to}
use Rattle.bar_exchange.proofs.Briefcases.{blocks_same, sealable_here}
use Rattle.bar_exchange.proofs.sealing.write_case.Goals as goal

pub returns-then-not-can_seal-clause-written : goal.returns-then-not-can_seal-clause-written
returns-then-not-can_seal-clause-written c me k tells recent can =
    let t = plain_terms c.in_ok-terms.terms in
    let blocks = block_in c.args.sources.now.store.now in
    let known : Some t ≡ terms_of me k c.args.x = sym (ap (option_map plain_terms) c.in_ok-terms.was) ∙ c.complete_terms.ensures.known me k tells recent in
    let role : role_of me c.args.x ≡ c.side-role.result = sym (c.side-role.ensures me k tells.recalls) in
    let cap : me.session.cap ≡ c.cap-cap.result = ap (λ (s : Session). s.cap) tells.session ∙ sym c.cap-cap.ensures in
    let windows : AreTermWindows me.session.shape c.args.x.round c.in_ok-terms.terms =
    subst (λ (s : Session). AreTermWindows s.shape c.args.x.round c.in_ok-terms.terms) (sym tells.session) c.in_ok-terms.ensures.windows
    in
    let is : IsSealable k.block me.session.cap t (role_of me c.args.x) =
    subst (λ (o : Option Terms). IfSome o (λ t. IsSealable k.block me.session.cap t (role_of me c.args.x))) (sym known) can.promise
    in
    let here = sealable_here k.block blocks me.session.cap t (role_of me c.args.x)
    (blocks_same me k c.args.sources.now.store.now c.args.x.round me.session.cap c.in_ok-terms.terms (role_of me c.args.x) tells.holds can.time windows) is
    in
    let moved : IsSealable blocks c.cap-cap.result t c.side-role.result = subst (λ (r : Role). IsSealable blocks c.cap-cap.result t r) role (subst (λ (n : ℕ). IsSealable blocks n t (role_of me c.args.x)) cap here) in
    absurd (false≢true (sym c.if-not-can_seal.true ∙ c.can_seal.ensures.1 moved))

pub returns-clause-written : goal.returns-clause-written
returns-clause-written c me k tells recent can =
    let x = c.args.x in
    let t = plain_terms c.in_ok-terms.terms in
    let blocks = block_in c.args.sources.now.store.now in
    let known : Some t ≡ terms_of me k x = sym (ap (option_map plain_terms) c.in_ok-terms.was) ∙ c.complete_terms.ensures.known me k tells recent in
    let role : c.side-role.result ≡ role_of me x = c.side-role.ensures me k tells.recalls in
    let session : c.args.sources.now.session.now ≡ me.session = sym tells.session in
    let cap : c.cap-cap.result ≡ me.session.cap = c.cap-cap.ensures ∙ ap (λ (s : Session). s.cap) session in
    let id : c.shape-shape.result.id ≡ me.session.shape.id =
    ap (λ (s : Shape). s.id) (c.shape-shape.ensures.value ∙ ap (λ (s : Session). s.shape) session)
    in
    let windows : AreTermWindows me.session.shape x.round c.in_ok-terms.terms =
    subst (λ (s : Session). AreTermWindows s.shape x.round c.in_ok-terms.terms) session c.in_ok-terms.ensures.windows
    in
    let key : c.key-key.result ≡ briefcase_key me x (role_of me x) = c.key-key.ensures ∙ (λ i. derived.briefcase_key (tells.secrets i) x (role i)) in
    let updates : c.update_count.result ≡ length (promised_updates me.session.cap t (role_of me x)) =
    c.update_count.ensures ∙ (λ i. length (promised_updates (cap i) t (role i)))
    in
    let junk : c.junk_count.result ≡ promised_junk t (role_of me x) = c.junk_count.ensures ∙ (λ i. promised_junk t (role i)) in
    let sealed =
    c.seal-length.ensures.value
    ∙ (λ i. sealing.sealed (id i) x (cap i) t (role i) (key i) blocks)
    ∙ sym (sealed_same me.session.shape.id x me.session.cap t (role_of me x) (briefcase_key me x (role_of me x)) k.block blocks
    (recursion_from_All (λ u. k.block u ≡ blocks u) (promised_updates me.session.cap t (role_of me x))
    (blocks_same me k c.args.sources.now.store.now x.round me.session.cap c.in_ok-terms.terms (role_of me x) tells.holds can.time windows)))
    in
    ap Some
    (c.write_message.ensures.written me k tells
    ∙ (λ i. bytes_to me x (Case (record { round = x.round; kind = x.kind; role = role i; updates = updates i; junk = junk i; terms = t; cipher = sealed i }))))
    ∙ ap (λ (o : Option Terms). option_map (bytes_to me x) (option_map (case_body me k x) o)) known
