-- The effect of an order by its kind, if there is something to send again and if there isn't.
use Rattle.std.proofs.Common.{◌≡◌, ◌∙◌, ℕ, true, false, is_some, List, Option, Some, None, refl, sym, ap}
use Rattle.std.specs.Prelude.{option_map}
use Rattle.std.proofs.lemmas.Bool.{false≢true}
use Rattle.bar_window.specs.declared.exchange.Exchange.{Exchange}
use Rattle.bar_window.specs.declared.update.UpdateId.{UpdateId}
use Rattle.bar_wire.specs.Datagram.{Datagram, Divulge, KeyReq}
use Rattle.bar_wire.specs.declared.kind.Kind.{Kind}
use Rattle.bar_wire.specs.declared.kind.Kind.TheVariants as kinds
use Rattle.bar_rules.specs.Member.{Member}
use Rattle.bar_rules.specs.Values.{unsigned}
use Rattle.bar_rules.specs.Peer.Exchanges.{role_of, partner_in, answer_kind}
use Rattle.bar_rules.specs.Peer.Knowledge.{Knowledge, known}
use Rattle.bar_rules.specs.Peer.Machine.{message_to, send_if}
use Rattle.bar_rules.specs.Peer.Orders.{answer_body, case_body, key_body}
use Rattle.bar_rules.specs.Peer.Run.{Out, say, say_or_repeat, perform}
use Rattle.bar_rules.specs.Peer.Terms.{terms_of}
use Rattle.bar_exchange.specs.Code.Says.{order_by}
use Rattle.bar_peer.specs.declared.memory.Memory.{Memory}
use Rattle.bar_peer.specs.Code.Memory.{Represents, member_of}
use Rattle.bar_peer.specs.Code.Sending.{send_now, Answers, IsCarriedOut}
use Rattle.bar_peer.proofs.Orders.CarryingOut.{say_of, carried_again, carried_not, said_again, unsaid}

-- the DIVULGE with what the initiator commits to
abbrev divulged : Member → Exchange → Option (List ℕ × List UpdateId) → Option (ℕ × Datagram)
divulged me x o =
    option_map (λ d. (partner_in me x, d))
    (option_map (λ b. unsigned (message_to me x b)) (option_map (λ a. Divulge x.round a.0 a.1) o))

abbrev send_divulged : Member → Exchange → Out → Option (List ℕ × List UpdateId) → Out
send_divulged me x out o = send_if me out (partner_in me x) (option_map (λ a. Divulge x.round a.0 a.1) o)

revealed_again : (x : Exchange) (out : Out) (m : Memory) (o : Option (List ℕ × List UpdateId)) → Represents out.state m
    → (known (member_of m.who) out.state).revealed x ≡ o
    → is_some (send_now (member_of m.who) (known (member_of m.who) out.state) (say_of kinds.Divulge x)) ≡ true
    → IsCarriedOut (member_of m.who) (say_of kinds.Divulge x) out (perform (member_of m.who) out (order_by kinds.Divulge x)) true m
revealed_again x out m None tells e has =
    let lacks : is_some (divulged (member_of m.who) x ((known (member_of m.who) out.state).revealed x)) ≡ false =
    ap (λ o. is_some (divulged (member_of m.who) x o)) e
    in
    absurd (false≢true (sym lacks ∙ has))
revealed_again x out m (Some a) tells e has =
    let me : Member = member_of m.who in
    carried_again (say_of kinds.Divulge x) out (perform me out (order_by kinds.Divulge x)) m
    (unsigned (message_to me x (Divulge x.round a.0 a.1)))
    tells
    (ap (send_divulged me x out) e)
    (ap (divulged me x) e)

-- if there is something to send, it is sent
pub repeated : (kind : Kind) (x : Exchange) (out : Out) (m : Memory) → Represents out.state m
    → Answers (member_of m.who) (known (member_of m.who) out.state) kind x
    → is_some (send_now (member_of m.who) (known (member_of m.who) out.state) (say_of kind x)) ≡ true
    → IsCarriedOut (member_of m.who) (say_of kind x) out (perform (member_of m.who) out (order_by kind x)) true m
repeated kinds.Divulge x out m tells answers has =
    revealed_again x out m ((known (member_of m.who) out.state).revealed x) tells refl has
repeated kinds.KeyReq x out m tells answers has =
    let me : Member = member_of m.who in
    carried_again (say_of kinds.KeyReq x) out _ m (unsigned (message_to me x (KeyReq x.round x.kind (role_of me x)))) tells refl refl
repeated kinds.Response x out m tells answers has =
    let me : Member = member_of m.who in
    let k : Knowledge = known me out.state in
    said_again kinds.Response x (answer_body me k x x.kind) out _ m (λ me k x. refl) tells has
    (λ i. say me out (answer_kind (answers.kind_is i)) x (answer_body me k x x.kind))
repeated kinds.Reply x out m tells answers has =
    let me : Member = member_of m.who in
    let k : Knowledge = known me out.state in
    said_again kinds.Reply x (answer_body me k x x.kind) out _ m (λ me k x. refl) tells has
    (λ i. say me out (answer_kind (answers.kind_is i)) x (answer_body me k x x.kind))
repeated kinds.Case x out m tells answers has =
    let me : Member = member_of m.who in
    let k : Knowledge = known me out.state in
    said_again kinds.Case x (option_map (case_body me k x) (terms_of me k x)) out _ m (λ me k x. refl) tells has refl
repeated kinds.Key x out m tells answers has =
    said_again kinds.Key x (Some (key_body (member_of m.who) x)) out _ m (λ me k x. refl) tells has refl
repeated kinds.Manifest x out m tells answers has = said_again kinds.Manifest x None out _ m (λ me k x. refl) tells has refl
repeated kinds.Block x out m tells answers has = said_again kinds.Block x None out _ m (λ me k x. refl) tells has refl
repeated kinds.Request x out m tells answers has = said_again kinds.Request x None out _ m (λ me k x. refl) tells has refl
repeated kinds.Query x out m tells answers has = said_again kinds.Query x None out _ m (λ me k x. refl) tells has refl
repeated kinds.Evidence x out m tells answers has = said_again kinds.Evidence x None out _ m (λ me k x. refl) tells has refl
repeated kinds.Evict x out m tells answers has = said_again kinds.Evict x None out _ m (λ me k x. refl) tells has refl

-- ---- nothing to send again, and nothing new

-- the kinds that a reply doesn't say for the first time
abbrev pub IsOther : Kind → Type 0
IsOther kind = (kind ≡ kinds.Response → ⊥) × (kind ≡ kinds.Reply → ⊥) × (kind ≡ kinds.Case → ⊥) × (kind ≡ kinds.Key → ⊥)

resent_none : (me : Member) (kind : Kind) (x : Exchange) (out : Out) → (known me out.state).said kind x (role_of me x) ≡ None
    → say me out kind x None ≡ out
resent_none me kind x out none = λ i. say_or_repeat me out x (none i) None

not_revealed : (me : Member) (x : Exchange) (out : Out) (o : Option (List ℕ × List UpdateId)) → (known me out.state).revealed x ≡ o
    → is_some (send_now me (known me out.state) (say_of kinds.Divulge x)) ≡ false → perform me out (order_by kinds.Divulge x) ≡ out
not_revealed me x out None e lacks = ap (send_divulged me x out) e
not_revealed me x out (Some a) e lacks =
    let has : is_some (divulged me x ((known me out.state).revealed x)) ≡ true = ap (λ o. is_some (divulged me x o)) e in
    absurd (false≢true (sym lacks ∙ has))

-- if there is nothing to send again, nothing is said
pub nothing_said : (kind : Kind) (x : Exchange) (out : Out) (m : Memory) → IsOther kind → Represents out.state m
    → is_some (send_now (member_of m.who) (known (member_of m.who) out.state) (say_of kind x)) ≡ false
    → IsCarriedOut (member_of m.who) (say_of kind x) out (perform (member_of m.who) out (order_by kind x)) false m
nothing_said kinds.Response x out m other tells lacks = absurd (other.0 refl)
nothing_said kinds.Reply x out m other tells lacks = absurd (other.1 refl)
nothing_said kinds.Case x out m other tells lacks = absurd (other.2 refl)
nothing_said kinds.Key x out m other tells lacks = absurd (other.3 refl)
nothing_said kinds.KeyReq x out m other tells lacks = absurd (false≢true (sym lacks))
nothing_said kinds.Divulge x out m other tells lacks =
    let me : Member = member_of m.who in
    carried_not (say_of kinds.Divulge x) out _ m tells (not_revealed me x out ((known me out.state).revealed x) refl lacks)
nothing_said kinds.Manifest x out m other tells lacks =
    let me : Member = member_of m.who in
    carried_not (say_of kinds.Manifest x) out _ m tells
    (resent_none me kinds.Manifest x out (unsaid me (known me out.state) kinds.Manifest x (λ me k x. refl) lacks))
nothing_said kinds.Block x out m other tells lacks =
    let me : Member = member_of m.who in
    carried_not (say_of kinds.Block x) out _ m tells
    (resent_none me kinds.Block x out (unsaid me (known me out.state) kinds.Block x (λ me k x. refl) lacks))
nothing_said kinds.Request x out m other tells lacks =
    let me : Member = member_of m.who in
    carried_not (say_of kinds.Request x) out _ m tells
    (resent_none me kinds.Request x out (unsaid me (known me out.state) kinds.Request x (λ me k x. refl) lacks))
nothing_said kinds.Query x out m other tells lacks =
    let me : Member = member_of m.who in
    carried_not (say_of kinds.Query x) out _ m tells
    (resent_none me kinds.Query x out (unsaid me (known me out.state) kinds.Query x (λ me k x. refl) lacks))
nothing_said kinds.Evidence x out m other tells lacks =
    let me : Member = member_of m.who in
    carried_not (say_of kinds.Evidence x) out _ m tells
    (resent_none me kinds.Evidence x out (unsaid me (known me out.state) kinds.Evidence x (λ me k x. refl) lacks))
nothing_said kinds.Evict x out m other tells lacks =
    let me : Member = member_of m.who in
    carried_not (say_of kinds.Evict x) out _ m tells
    (resent_none me kinds.Evict x out (unsaid me (known me out.state) kinds.Evict x (λ me k x. refl) lacks))
