-- Asking a partner for an exchange.
use Rattle.std.proofs.Common.{◌≡◌, ℕ, ◌∙◌, Bool, true, false, not, List, [], ◌∷◌, ◌++◌, sym, ap, subst, arith}
use Rattle.std.specs.Prelude.{if◌then◌else◌}
use Rattle.bar_window.specs.declared.exchange.Exchange.{Exchange}
use Rattle.bar_window.specs.declared.exchange.XKind.{XKind}
use Rattle.bar_wire.specs.Datagram.{Datagram}
use Rattle.bar_wire.specs.declared.shape.Shape.{Shape}
use Rattle.bar_seeds.specs.Partners as partners
use Rattle.bar_seeds.specs.Seeds as seeds
use Rattle.bar_rules.specs.Member.{Member}
use Rattle.bar_rules.specs.Peer.Exchanges.{request_kind}
use Rattle.bar_rules.specs.Peer.Knowledge.{Knowledge, known, this_round}
use Rattle.bar_rules.specs.Peer.Orders.{Ask}
use Rattle.bar_rules.specs.Peer.Replies.{orders_when}
use Rattle.bar_rules.specs.Peer.Run.{Out}
use Rattle.bar_rules.specs.Peer.Ticks.{asking_partner}
use Rattle.bar_rules.specs.Secrets.{partner_of, seed_of}
use Rattle.bar_exchange.specs.declared.say.Say.{Say}
use Rattle.bar_peer.specs.declared.credentials.Credentials.{Credentials}
use Rattle.bar_peer.specs.declared.memory.Memory.{Memory}
use Rattle.bar_peer.specs.declared.order.Order.TheVariants as queued
use Rattle.bar_peer.specs.Code.Orders.{Orders}
use Rattle.bar_peer.specs.Code.Memory.{member_of}
use Rattle.bar_peer.specs.Code.Sending.{IsTimely, AreFor, IsCarriedOut, HasOutcome}
use Rattle.bar_peer.specs.Code.Ticking.{is_unasked}
use Rattle.bar_peer.proofs.Orders.Growth.{Grows, timely_still}
use Rattle.bar_peer.proofs.Orders.Outcomes.{orders_stay, orders_pushed}
use Rattle.bar_peer.proofs.Ticking.Timely.{timely_request}

-- a round's seed from the chain chooses the member's partner
pub chosen_partner : (who : Credentials) (round : ℕ) (kind : XKind) (seed : List ℕ)
    → seed ≡ seeds.seed_of who.chain.secrets who.chain.rounds round
    → partners.partner_of who.session.shape.id who.session.shape.peers seed kind who.secrets.party
    ≡ partner_of who.session (seed_of (member_of who) round) kind who.secrets.party
chosen_partner who round kind seed is = λ i.
    partners.partner_of who.session.shape.id who.session.shape.peers
    ((is
    ∙ (λ i. seeds.seed_of (who.same_secrets i).secrets (who.same_secrets i).rounds round)
    ∙ (λ i. seeds.seed_of (record { id = who.same_session i; party = who.secrets.party; secret = who.secrets.secret })
    who.session.shape.rounds round)) i)
    kind who.secrets.party

pub partner_is : (who : Credentials) (shape : Shape) (round now : ℕ) (kind : XKind) (seed : List ℕ) (to : ℕ) → shape ≡ who.session.shape
    → round ≡ now → seed ≡ seeds.seed_of who.chain.secrets who.chain.rounds round
    → to ≡ partners.partner_of shape.id shape.peers seed kind who.secrets.party
    → to ≡ partner_of who.session (seed_of (member_of who) now) kind who.secrets.party
partner_is who shape round now kind seed to same is chain chosen =
    chosen
    ∙ (λ i. partners.partner_of (same i).id (same i).peers seed kind who.secrets.party)
    ∙ chosen_partner who now kind seed (chain ∙ ap (seeds.seed_of who.chain.secrets who.chain.rounds) is)

-- a partner that is announced evicted or owes a key isn't asked
pub none_asked : (me : Member) (before : Knowledge) (round : ℕ) (kind : XKind) (to : ℕ)
    → to ≡ partner_of me.session (seed_of me round) kind me.party → is_unasked me before to ≡ true → [] ≡ asking_partner me before round kind
none_asked me before round kind to is unasked = λ i.
    orders_when (not ((sym unasked ∙ ap (is_unasked me before) is) i))
    (Ask (record {
      round = round;
      kind = kind;
      initiator = me.party;
      responder = partner_of me.session (seed_of me round) kind me.party;
    })
    ∷ [])

pub one_asked : (me : Member) (before : Knowledge) (round : ℕ) (kind : XKind) (to : ℕ) (x : Exchange)
    → to ≡ partner_of me.session (seed_of me round) kind me.party → is_unasked me before to ≡ false
    → x ≡ record { round = round; kind = kind; initiator = me.party; responder = to } → Ask x ∷ [] ≡ asking_partner me before round kind
one_asked me before round kind to x is asked x_is =
    (λ i. Ask (x_is i) ∷ [])
    ∙ (λ i. orders_when (not (sym asked i)) (Ask (record { round = round; kind = kind; initiator = me.party; responder = to }) ∷ []))
    ∙ (λ i. orders_when (not (is_unasked me before (is i)))
    (Ask (record { round = round; kind = kind; initiator = me.party; responder = is i }) ∷ []))

-- ---- the side of the asking member

-- a request of this round may be sent
pub asks_timely : (me : Member) (k : Knowledge) (x : Exchange) → x.round ≡ this_round k
    → IsTimely me k (record { kind = request_kind x.kind; x = x })
asks_timely me k x now = timely_request me k x.kind x.round (omega arith)

-- ---- carrying out the order

pub carried_stands : (m n : Memory) (o p : Orders) (out after : Out) (say : Say) (is_sent : Bool) → n.who ≡ m.who
    → Grows (known (member_of m.who) out.state) (known (member_of m.who) after.state)
    → IsTimely (member_of m.who) (known (member_of m.who) out.state) say → HasOutcome out m o
    → IsCarriedOut (member_of m.who) say out after is_sent n
    → p.list.items ≡ (if is_sent then o.list.items ++ queued.Say say ∷ [] else o.list.items) → HasOutcome after n p
carried_stands m n o p out after say true who g timely h done pushed =
    let me : Member = member_of m.who in
    let k : Knowledge = known me out.state in
    let l : Knowledge = known me after.state in
    let send : ℕ × Datagram = done.sends.0 in
    let more : AreFor me l (o.list.items ++ queued.Say say ∷ []) (out.sends ++ send ∷ []) =
    orders_pushed me l o.list.items out.sends (queued.Say say) send (orders_stay me k l o.list.items out.sends g h.orders) done.sends.1
    (timely_still me k l g say timely)
    in
    let all : AreFor me l p.list.items after.sends =
    subst (λ sends. AreFor me l p.list.items sends) (sym done.sends.2)
    (subst (λ list. AreFor me l list (out.sends ++ send ∷ [])) (sym pushed) more)
    in
    record {
      tells = done.tells;
      orders = subst (λ (w : Credentials). AreFor (member_of w) (known (member_of w) after.state) p.list.items after.sends) (sym who) all;
    }
carried_stands m n o p out after say false who g timely h done pushed =
    let me : Member = member_of m.who in
    let k : Knowledge = known me out.state in
    let l : Knowledge = known me after.state in
    let all : AreFor me l p.list.items after.sends =
    subst (λ sends. AreFor me l p.list.items sends) (sym done.sends)
    (subst (λ list. AreFor me l list out.sends) (sym pushed) (orders_stay me k l o.list.items out.sends g h.orders))
    in
    record {
      tells = done.tells;
      orders = subst (λ (w : Credentials). AreFor (member_of w) (known (member_of w) after.state) p.list.items after.sends) (sym who) all;
    }
