-- What a peer sends and plays at a tick.
use Rattle.std.specs.Prelude.{ℕ, ◌+◌, ◌-◌, ◌==◌, ◌&&◌, ◌||◌, not, Bool, true, false, List, [], ◌∷◌, ◌++◌, length, map, filter, flat_map, is_some, if◌then◌else◌, nat_le, nat_lt, option_to_list, slice_range}
use Rattle.std.specs.List.{range_with_len}
use Rattle.bar_bytes.specs.Bytes.{first_u16}
use Rattle.bar_wire.specs.Grammar.{is_third}
use Rattle.bar_wire.specs.Limits.{largest_content}
use Rattle.bar_window.specs.declared.update.UpdateId.{UpdateId}
use Rattle.bar_window.specs.declared.exchange.Exchange.{Exchange}
use Rattle.bar_window.specs.declared.exchange.Role.{Role}
use Rattle.bar_window.specs.declared.exchange.Role.TheVariants.{Initiator, Responder}
use Rattle.bar_window.specs.declared.exchange.XKind.{XKind}
use Rattle.bar_window.specs.declared.exchange.XKind.TheVariants.{Balanced, Push}
use Rattle.bar_window.specs.Exchange.{other_role}
use Rattle.bar_wire.specs.declared.kind.Kind.TheVariants as kinds
use Rattle.bar_session.specs.Time.{slot_after}
use Rattle.bar_rules.specs.Member.{Member}
use Rattle.bar_rules.specs.Values.{updates_of}
use Rattle.bar_rules.specs.Secrets.{seed_of, partner_of}
use Rattle.bar_rules.specs.Peer.Exchanges.{role_of, partner_in, request_kind, answer_kind}
use Rattle.bar_rules.specs.Peer.Knowledge.{Knowledge, this_round, is_in_time, has_heard_of, has_said_of}
use Rattle.bar_rules.specs.Peer.Debts.{owes}
use Rattle.bar_rules.specs.Peer.Choices.{young_of}
use Rattle.bar_rules.specs.Peer.Orders.{Order, Ask, Reveal, AskKey, Resend, Report}
use Rattle.bar_rules.specs.Peer.Replies.{orders_when}

-- ---- what is sent again for an exchange

abbrev pub is_initiator : Role → Bool
is_initiator Initiator = true
is_initiator Responder = false

abbrev pub reveals : XKind → Role → Exchange → List Order
reveals Balanced Initiator x = Reveal x ∷ []
reveals _ _ x = []

-- this member asked and has no answer yet
abbrev pub lacks_answer : Member → Knowledge → Exchange → Bool
lacks_answer me k x =
    is_initiator (role_of me x) && not (has_heard_of k (answer_kind x.kind) x Responder) && is_in_time me.session k kinds.Request x.round

abbrev pub lacks_partners_case : Member → Knowledge → Exchange → Bool
lacks_partners_case me k x = not (has_heard_of k kinds.Case x (other_role (role_of me x)))

-- no KEY of the exchange is said or heard
abbrev pub lacks_keys : Member → Knowledge → Exchange → Bool
lacks_keys me k x = not (has_said_of k kinds.Key x (role_of me x) || has_heard_of k kinds.Key x (other_role (role_of me x)))

-- This member's CASE is said, and the partner may lack it. In versions 1 and 2 this is so if the partner's CASE isn't heard. In version 3
-- it is so if no KEY is heard, and none is said, as only a partner with both CASEs asks for one.
abbrev pub lacks_case : Member → Knowledge → Exchange → Bool
lacks_case me k x =
    has_said_of k kinds.Case x (role_of me x)
    && (if is_third me.session.shape then lacks_keys me k x else lacks_partners_case me k x)
    && is_in_time me.session k kinds.Case x.round

-- its own CASE is said and the partner's is heard, but the partner's KEY isn't
abbrev pub lacks_key : Member → Knowledge → Exchange → Bool
lacks_key me k x =
    has_said_of k kinds.Case x (role_of me x)
    && has_heard_of k kinds.Case x (other_role (role_of me x))
    && not (has_heard_of k kinds.Key x (other_role (role_of me x)))
    && is_in_time me.session k kinds.Key x.round

-- the CASE, after the DIVULGE if a balanced initiator hasn't heard the partner's CASE
abbrev pub case_again : Member → Knowledge → Exchange → List Order
case_again me k x = orders_when (lacks_partners_case me k x) (reveals x.kind (role_of me x) x) ++ Resend kinds.Case x ∷ []

-- the request, if it waits for an answer; else the CASE and the request for a KEY, of which at most one is due in versions 1 and 2
abbrev pub again : Member → Knowledge → Exchange → List Order
again me k x =
    if lacks_answer me k x then Resend (request_kind x.kind) x ∷ []
    else orders_when (lacks_case me k x) (case_again me k x) ++ orders_when (lacks_key me k x) (AskKey x ∷ [])

-- ---- a round's new requests, and the reports of evidence

-- a partner that is announced evicted, or owes this member a key, isn't asked
abbrev pub asking_partner : Member → Knowledge → ℕ → XKind → List Order
asking_partner me k round kind =
    let to : ℕ = partner_of me.session (seed_of me round) kind me.party in
    orders_when (not (k.is_announced to || owes me k to)) (Ask (record { round = round; kind = kind; initiator = me.party; responder = to }) ∷ [])

abbrev pub new_requests : Member → Knowledge → ℕ → List Order
new_requests me k round =
    asking_partner me k round Balanced ++ orders_when (nat_lt 0 (length (young_of me k round))) (asking_partner me k round Push)

abbrev pub reports : Member → Knowledge → List Order
reports me k = map Report (filter (λ q. is_some (k.evidence q) && not (k.is_announced q)) (range_with_len 1 me.session.shape.peers))

-- what is sent again for each open exchange whose partner isn't announced evicted; at slot 0 of a round of the session, the round's
-- requests; at slot 7, the reports
abbrev pub orders_at_tick : Member → Knowledge → List Order
orders_at_tick me k =
    flat_map (λ x. orders_when (not (k.is_announced (partner_in me x))) (again me k x)) k.opens
    ++ orders_when ((slot_after k.ticks == 0) && (nat_le 1 (this_round k) && nat_le (this_round k) me.session.shape.rounds))
    (new_requests me k (this_round k))
    ++ orders_when (slot_after k.ticks == 7) (reports me k)

-- ---- played contents

-- The content of a block: its length, a number of two bytes, and then as many bytes. A length above the largest plays nothing.
abbrev pub content_of : List ℕ → List (List ℕ)
content_of block =
    let len = first_u16 block in
    if nat_le len largest_content then slice_range block 2 (2 + len) ∷ [] else []

-- the content of an update, if it is held
abbrev pub content_at : Member → Knowledge → UpdateId → List (List ℕ)
content_at me k u = flat_map content_of (option_to_list (k.block u))

-- the contents of a round's held updates, in order
unfoldable pub contents_of_round : Member → Knowledge → ℕ → List (List ℕ)
contents_of_round me k round = flat_map (content_at me k) (updates_of me.session round)

-- at the first slot of a round, the updates released one life before are played
abbrev pub contents_at_tick : Member → Knowledge → List (List ℕ)
contents_at_tick me k =
    let round = this_round k - me.session.shape.life in
    if (slot_after k.ticks == 0) && (nat_le 1 round && nat_le round me.session.shape.rounds)
    then contents_of_round me k round else []
