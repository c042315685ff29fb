-- What is ordered at a tick, order by order.
use Rattle.bar_wire.specs.declared.kind.Kind.TheVariants as kinds
use Rattle.bar_window.specs.declared.exchange.Exchange.{Exchange}
use Rattle.bar_window.specs.declared.exchange.Role.{Role}
use Rattle.bar_window.specs.declared.exchange.Role.TheVariants.{Initiator, Responder}
use Rattle.bar_window.specs.declared.exchange.XKind.{XKind}
use Rattle.bar_window.specs.declared.exchange.XKind.TheVariants.{Balanced, Push}
use Rattle.bar_session.specs.Time.{slot_after}
use Rattle.bar_rules.specs.Member.{Member}
use Rattle.bar_rules.specs.Peer.Exchanges.{request_kind, role_of, partner_in}
use Rattle.bar_rules.specs.Peer.Knowledge.{Knowledge, this_round}
use Rattle.bar_rules.specs.Peer.Orders.{Order, Reveal, AskKey, Resend, Report}
use Rattle.bar_rules.specs.Peer.Replies.{orders_when}
use Rattle.bar_rules.specs.Peer.Ticks.{reveals, lacks_answer, lacks_partners_case, lacks_case, lacks_key, case_again, again, asking_partner, new_requests, reports, orders_at_tick}
use Rattle.std.proofs.Common.{◌≡◌, ℕ, Bool, true, false, List, [], ◌∷◌, ◌++◌, refl, eqb, not, ◌&&◌, cond}
use Rattle.std.specs.Prelude.{filter, is_some}
use Rattle.std.specs.List.{AllByRecursion, range_with_len}
use Rattle.bar_laws.proofs.Logs.Lists.{all-both, all-flat-map, all-mapped}

pub when-all : (P : Order → Type 0) (b : Bool) (os : List Order) → (b ≡ true → AllByRecursion P os) → AllByRecursion P (orders_when b os)
when-all P true os f = f refl
when-all P false os f = tt

-- what holds of each order that may be given again for an exchange
pub again-all : (P : Order → Type 0) (me : Member) (k : Knowledge) (x : Exchange) → P (Resend (request_kind x.kind) x)
    → (lacks_case me k x ≡ true → P (Reveal x) × P (Resend kinds.Case x)) → (lacks_key me k x ≡ true → P (AskKey x)) → AllByRecursion P (again me k x)
again-all P me k x request case key = go (lacks_answer me k x)
  where
    shown : P (Reveal x) → (kind : XKind) (role : Role) → AllByRecursion P (reveals kind role x)
    shown p Balanced Initiator = (p, tt)
    shown p Balanced Responder = tt
    shown p Push Initiator = tt
    shown p Push Responder = tt

    again : P (Reveal x) × P (Resend kinds.Case x) → AllByRecursion P (case_again me k x)
    again p = all-both P _ (Resend kinds.Case x ∷ []) (when-all P (lacks_partners_case me k x) (reveals x.kind (role_of me x) x) (λ _. shown p.0 x.kind (role_of me x))) (p.1, tt)

    go : (b : Bool) → AllByRecursion P (cond b (Resend (request_kind x.kind) x ∷ []) (orders_when (lacks_case me k x) (case_again me k x) ++ orders_when (lacks_key me k x) (AskKey x ∷ [])))
    go true = (request, tt)
    go false = all-both P _ _ (when-all P (lacks_case me k x) (case_again me k x) (λ h. again (case h))) (when-all P (lacks_key me k x) (AskKey x ∷ []) (λ h. (key h, tt)))

-- what holds of each order of a tick: of those for the open exchanges, of the requests, and of the reports
pub tick-all : (P : Order → Type 0) (R : Exchange → Type 0) (me : Member) (k : Knowledge) → AllByRecursion R k.opens → ((x : Exchange) → R x → AllByRecursion P (again me k x))
    → ((kind : XKind) → AllByRecursion P (asking_partner me k (this_round k) kind)) → ((q : ℕ) → P (Report q)) → AllByRecursion P (orders_at_tick me k)
tick-all P R me k opens old asks report =
    all-both P _ _
    (all-both P _ _
    (all-flat-map R P (λ x. orders_when (not (k.is_announced (partner_in me x))) (again me k x)) k.opens (λ x r. when-all P (not (k.is_announced (partner_in me x))) (again me k x) (λ _. old x r)) opens)
    (when-all P _ (new_requests me k (this_round k)) (λ _. all-both P _ _ (asks Balanced) (when-all P _ (asking_partner me k (this_round k) Push) (λ _. asks Push)))))
    (when-all P (eqb (slot_after k.ticks) 7) (reports me k) (λ _. all-mapped P Report (filter (λ q. is_some (k.evidence q) && not (k.is_announced q)) (range_with_len 1 me.session.shape.peers)) report))
