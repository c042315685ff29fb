-- The replies to a datagram are of exchanges of this member, and may be said now.
use Rattle.std.proofs.Common.{◌≡◌, ◌≤◌, ◌+◌, ℕ, Bool, true, false, ◌||◌, List, [], ◌∷◌, refl, sym, subst, arith, inl, inr}
use Rattle.std.specs.Prelude.{map, nat_le, ◌==◌}
use Rattle.std.specs.List.{AllByRecursion}
use Rattle.std.proofs.lemmas.Bool.{and_parts, cases_Bool, false≢true}
use Rattle.std.proofs.lemmas.Bool.Decides.{nat_tests}
use Rattle.bar_window.specs.declared.exchange.Exchange.{Exchange}
use Rattle.bar_window.specs.declared.exchange.Role.{Role}
use Rattle.bar_window.specs.declared.exchange.Role.TheVariants.{Initiator, Responder}
use Rattle.bar_window.specs.declared.exchange.XKind.{XKind}
use Rattle.bar_window.specs.declared.exchange.XKind.TheVariants.{Balanced, Push}
use Rattle.bar_window.specs.Exchange.{party_on}
use Rattle.bar_wire.specs.Datagram.{Body, Manifest, Block, Request, Response, Divulge, Query, Reply, Case, KeyReq, Key, Evidence, Evict, kind_of, round_of, exchange_by}
use Rattle.bar_wire.specs.declared.kind.Kind.{Kind}
use Rattle.bar_wire.specs.declared.kind.Kind.TheVariants as kinds
use Rattle.bar_rules.specs.Member.{Member}
use Rattle.bar_rules.specs.Peer.Admission.{is_row_met}
use Rattle.bar_rules.specs.Peer.Agreement.{IsRecent}
use Rattle.bar_rules.specs.Peer.Exchanges.{role_of}
use Rattle.bar_rules.specs.Peer.Knowledge.{Knowledge, this_round, is_in_time}
use Rattle.bar_rules.specs.Peer.Orders.{Order, Ask, Answer, Reveal, GiveCase, AskKey, GiveKey, Resend, Report}
use Rattle.bar_rules.specs.Peer.Replies.{orders_for, orders_when}
use Rattle.bar_exchange.specs.declared.say.Say.{Say}
use Rattle.bar_exchange.specs.Code.Says.{order_by, Fits}
use Rattle.bar_wire.proofs.ExchangeBy.{round-by}
use Rattle.bar_peer.specs.Code.Repeats.{is_of_exchange}
use Rattle.bar_peer.specs.Code.Sending.{MaySayNow}
use Rattle.bar_peer.proofs.Admitting.Rows.{may_ask_in_time}
use Rattle.bar_bytes.proofs.Tests.{and-second}

-- this member is on its side of the exchange
abbrev IsOurs : Member → Exchange → Type 0
IsOurs me x = party_on x (role_of me x) ≡ me.party

-- the message of an order may be said now
abbrev pub IsDue : Member → Knowledge → Order → Type 0
IsDue me k (Answer x) = IsOurs me x × ((role_of me x ≡ Responder) × (this_round k ≤ x.round + 2))
IsDue me k (Reveal x) = IsOurs me x × IsRecent me k x.round
IsDue me k (GiveCase x) = IsOurs me x × (this_round k ≤ x.round + 2)
IsDue me k (AskKey x) = IsOurs me x × IsRecent me k x.round
IsDue me k (GiveKey x) = IsOurs me x × IsRecent me k x.round
IsDue me k (Ask x) = ⊥
IsDue me k (Resend kind x) = ⊥
IsDue me k (Report q) = ⊥

say-due : (me : Member) (k : Knowledge) (kind : Kind) (x : Exchange) → 2 ≤ me.session.shape.life → Fits kind x.kind → IsDue me k (order_by kind x)
    → MaySayNow me k (record { kind = kind; x = x })
say-due me k kinds.Response x life fits d = record { ours = d.0; timely = omega (arith, life, d.1.1); answers = record { kind_is = fits; side = d.1.0; early = d.1.1 } }
say-due me k kinds.Reply x life fits d = record { ours = d.0; timely = omega (arith, life, d.1.1); answers = record { kind_is = fits; side = d.1.0; early = d.1.1 } }
say-due me k kinds.Divulge x life fits d = record { ours = d.0; timely = d.1; answers = tt }
say-due me k kinds.Case x life fits d = record { ours = d.0; timely = d.1; answers = tt }
say-due me k kinds.KeyReq x life fits d = record { ours = d.0; timely = d.1; answers = tt }
say-due me k kinds.Key x life fits d = record { ours = d.0; timely = d.1; answers = tt }
say-due me k kinds.Manifest x life fits d = absurd d
say-due me k kinds.Block x life fits d = absurd d
say-due me k kinds.Request x life fits d = absurd d
say-due me k kinds.Query x life fits d = absurd d
say-due me k kinds.Evidence x life fits d = absurd d
say-due me k kinds.Evict x life fits d = absurd d

pub says-due : (me : Member) (k : Knowledge) (says : List Say) → 2 ≤ me.session.shape.life → AllByRecursion (λ say. Fits say.kind say.x.kind) says
    → AllByRecursion (IsDue me k) (map (λ say. order_by say.kind say.x) says) → AllByRecursion (MaySayNow me k) says
says-due me k [] life fits all = tt
says-due me k (say ∷ says) life fits all = (say-due me k say.kind say.x life fits.0 all.0, says-due me k says life fits.1 all.1)

-- ---- the orders for a datagram

ours-by : (me : Member) (r : ℕ) (kind : XKind) (role : Role) (from to : ℕ) → to ≡ me.party → IsOurs me (exchange_by r kind role from to)
ours-by me r kind Initiator from to e = elim (cases_Bool (from == me.party)) [
  | inl same ↦ let is : from ≡ me.party = grind (arith, nat_tests, same) in rw same is
  | inr other ↦ rw other e
]
ours-by me r kind Responder from to e = let same : (to == me.party) ≡ true = grind (arith, nat_tests, e) in rw same e

responds : (me : Member) (r : ℕ) (kind : XKind) (from to : ℕ) → (from ≡ me.party → ⊥) → role_of me (exchange_by r kind Initiator from to) ≡ Responder
responds me r kind from to apart = elim (cases_Bool (from == me.party)) [
  | inl same ↦ let is : from ≡ me.party = grind (arith, nat_tests, same) in absurd (apart is)
  | inr other ↦ rw other refl
]

recent-by : (me : Member) (k : Knowledge) (r deadline : ℕ) (kind : XKind) (role : Role) (from to : ℕ) → deadline ≤ me.session.shape.life
    → nat_le (this_round k) (r + deadline) ≡ true → IsRecent me k (exchange_by r kind role from to).round
recent-by me k r deadline kind role from to few t =
    let by : this_round k ≤ r + deadline = grind (arith, nat_tests, t) in
    let here : IsRecent me k r = omega (arith, few, by) in
    subst (IsRecent me k) (sym (round-by r kind role from to)) here

soon-by : (k : Knowledge) (r deadline : ℕ) (kind : XKind) (role : Role) (from to : ℕ) → deadline ≤ 2
    → nat_le (this_round k) (r + deadline) ≡ true → this_round k ≤ (exchange_by r kind role from to).round + 2
soon-by k r deadline kind role from to few t =
    let by : this_round k ≤ r + deadline = grind (arith, nat_tests, t) in
    let here : this_round k ≤ r + 2 = omega (arith, few, by) in
    subst (λ (n : ℕ). this_round k ≤ n + 2) (sym (round-by r kind role from to)) here

when-due : (me : Member) (k : Knowledge) (b : Bool) (os : List Order) → (b ≡ true → AllByRecursion (IsDue me k) os) → AllByRecursion (IsDue me k) (orders_when b os)
when-due me k true os all = all refl
when-due me k false os all = tt

-- a new datagram is in time, and so is a repeat that is answered
in-time : (is_new t : Bool) → (is_new ≡ true → t ≡ true) → (is_new || t) ≡ true → t ≡ true
in-time true t new e = new refl
in-time false t new e = e

-- if the row of a datagram of an exchange is met, its round is within the deadline of its kind
pub row-deadline : (me : Member) (k : Knowledge) (from to : ℕ) (b : Body) → is_of_exchange b ≡ true → is_row_met me k from to b ≡ true
    → is_in_time me.session k (kind_of b) (round_of b) ≡ true
row-deadline me k from to (Request r s c) x met = may_ask_in_time me k Balanced from r s met
row-deadline me k from to (Response r hb) x met = and-second _ _ met
row-deadline me k from to (Divulge r n ha) x met = and-second _ _ met
row-deadline me k from to (Query r s y o) x met = may_ask_in_time me k Push from r s (and-second _ _ met)
row-deadline me k from to (Reply r w g z) x met = and-second _ _ met
row-deadline me k from to (Case c) x met = and-second _ _ met
row-deadline me k from to (KeyReq r kind role) x met = and-second _ _ met
row-deadline me k from to (Key g) x met = and-second _ _ met
row-deadline me k from to (Manifest r ds) x met = absurd (false≢true x)
row-deadline me k from to (Block u b) x met = absurd (false≢true x)
row-deadline me k from to (Evidence ds) x met = absurd (false≢true x)
row-deadline me k from to (Evict r ps) x met = absurd (false≢true x)

pub orders-due : (me : Member) (k : Knowledge) (is_new : Bool) (from to : ℕ) (b : Body) → (is_of_exchange b ≡ true → (to ≡ me.party) × (from ≡ me.party → ⊥)) → 2 ≤ me.session.shape.life
    → (is_new ≡ true → is_of_exchange b ≡ true → is_in_time me.session k (kind_of b) (round_of b) ≡ true)
    → AllByRecursion (IsDue me k) (orders_for me k is_new from to b)
orders-due me k is_new from to (Request r s c) e life new =
    when-due me k _ (Answer (exchange_by r Balanced Initiator from to) ∷ []) (λ t. let soon = in-time is_new _ (λ n. new n refl) t in
    ((ours-by me r Balanced Initiator from to (e refl).0, (responds me r Balanced from to (e refl).1, soon-by k r 1 Balanced Initiator from to (omega arith) soon)), tt))
orders-due me k is_new from to (Response r hb) e life new =
    let x : Exchange = exchange_by r Balanced Responder from to in
    when-due me k _ (Reveal x ∷ GiveCase x ∷ []) (λ t. let soon = new (and_parts _ _ t).0 refl in (
      (ours-by me r Balanced Responder from to (e refl).0, recent-by me k r 2 Balanced Responder from to life soon),
      ((ours-by me r Balanced Responder from to (e refl).0, soon-by k r 2 Balanced Responder from to (omega arith) soon), tt),
    ))
orders-due me k is_new from to (Divulge r nonce ha) e life new =
    when-due me k _ (GiveCase (exchange_by r Balanced Initiator from to) ∷ []) (λ t. let soon = in-time is_new _ (λ n. new n refl) (and_parts _ _ t).0 in
    ((ours-by me r Balanced Initiator from to (e refl).0, soon-by k r 2 Balanced Initiator from to (omega arith) soon), tt))
orders-due me k is_new from to (Query r seed young aged) e life new =
    let x : Exchange = exchange_by r Push Initiator from to in
    when-due me k _ (Answer x ∷ GiveCase x ∷ []) (λ t. let soon = in-time is_new _ (λ n. new n refl) t in (
      (ours-by me r Push Initiator from to (e refl).0, (responds me r Push from to (e refl).1, soon-by k r 1 Push Initiator from to (omega arith) soon)),
      ((ours-by me r Push Initiator from to (e refl).0, soon-by k r 1 Push Initiator from to (omega arith) soon), tt),
    ))
orders-due me k is_new from to (Reply r want give junk) e life new =
    when-due me k _ (GiveCase (exchange_by r Push Responder from to) ∷ [])
    (λ t. ((ours-by me r Push Responder from to (e refl).0, soon-by k r 2 Push Responder from to (omega arith) (new t refl)), tt))
orders-due me k is_new from to (Case c) e life new =
    when-due me k _ (AskKey (exchange_by c.round c.kind c.role from to) ∷ [])
    (λ t. ((ours-by me c.round c.kind c.role from to (e refl).0, recent-by me k c.round 2 c.kind c.role from to life (new t refl)), tt))
orders-due me k is_new from to (KeyReq r kind role) e life new =
    when-due me k _ (GiveKey (exchange_by r kind role from to) ∷ []) (λ t. let soon = in-time is_new _ (λ n. new n refl) t in
    ((ours-by me r kind role from to (e refl).0, recent-by me k r me.session.shape.life kind role from to (omega arith) soon), tt))
orders-due me k is_new from to (Manifest r ds) e life new = tt
orders-due me k is_new from to (Block u b) e life new = tt
orders-due me k is_new from to (Key g) e life new = tt
orders-due me k is_new from to (Evidence ds) e life new = tt
orders-due me k is_new from to (Evict r ps) e life new = tt
