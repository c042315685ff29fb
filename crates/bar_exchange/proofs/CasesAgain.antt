-- If a CASE is sent again, a KEYREQ is due with it if and only if the partner's CASE is heard.
use Rattle.std.proofs.Common.{◌≡◌, ◌∙◌, ◌≤◌, ◌+◌, Bool, true, false, ◌&&◌, ◌||◌, [], ◌∷◌, ◌++◌, is_some, sym, ap, refl, arith}
use Rattle.std.specs.Prelude.{not, if◌then◌else◌}
use Rattle.std.proofs.lemmas.Bool.{and_parts, false≢true, le-leb, leb-true}
use Rattle.std.proofs.lemmas.List.{append-nil}
use Rattle.bar_bytes.proofs.Options.{some-mapped}
use Rattle.bar_window.specs.declared.exchange.Exchange.{Exchange}
use Rattle.bar_window.specs.declared.exchange.Role.{Role}
use Rattle.bar_window.specs.Exchange.{other_role}
use Rattle.bar_wire.specs.Grammar.{is_third}
use Rattle.bar_wire.specs.declared.kind.Kind.{Kind}
use Rattle.bar_wire.specs.declared.kind.Kind.TheVariants as kinds
use Rattle.bar_rules.specs.Member.{Member, IsMember}
use Rattle.bar_rules.specs.Values.{datagram_bytes}
use Rattle.bar_rules.specs.Peer.Agreement.{IsRecent}
use Rattle.bar_rules.specs.Peer.Exchanges.{role_of}
use Rattle.bar_rules.specs.Peer.Knowledge.{Knowledge, this_round, answer_deadline, is_in_time, has_heard_of, has_said_of}
use Rattle.bar_rules.specs.Peer.Orders.{AskKey, Resend}
use Rattle.bar_rules.specs.Peer.Replies.{orders_when}
use Rattle.bar_rules.specs.Peer.Ticks.{lacks_case, lacks_key, lacks_keys, reveals, case_again}
use Rattle.bar_ledger.specs.declared.ledger.Ledger.{Ledger}
use Rattle.bar_ledger.specs.Code.Lookups.{heard_in, said_in}
use Rattle.bar_ledger.specs.Code.Recalls.{Recalls}

-- a CASE that the partner may lack is in time, so its exchange may still be asked about
case_in_time : (me : Member) (k : Knowledge) (x : Exchange) → lacks_case me k x ≡ true → this_round k ≤ x.round + answer_deadline
case_in_time me k x lacks = leb-true _ _ (and_parts _ _ lacks).1

pub case_recent : (me : Member) (k : Knowledge) (x : Exchange) → IsMember me → lacks_case me k x ≡ true → IsRecent me k x.round
case_recent me k x member lacks =
    let life : 2 ≤ me.session.shape.life = member.session.shape.life_low in
    omega (arith, case_in_time me k x lacks, life)

-- what the ledger holds of the partner's datagrams is known
pub partner_heard : (me : Member) (k : Knowledge) (l : Ledger) (kind : Kind) (x : Exchange) (role : Role) (heard : Bool) → Recalls me k l
    → IsRecent me k x.round → role ≡ role_of me x → heard ≡ is_some (heard_in l kind x (other_role role))
    → heard ≡ has_heard_of k kind x (other_role (role_of me x))
partner_heard me k l kind x role heard h recent own is =
    let other : Role = other_role (role_of me x) in
    is
    ∙ ap (λ role. is_some (heard_in l kind x (other_role role))) own
    ∙ ap (λ o. is_some o) (sym (h.heard kind x other recent))
    ∙ some-mapped (datagram_bytes me.session) (k.heard kind x other)

-- no KEY was said or heard
pub keys_known : (me : Member) (k : Knowledge) (l : Ledger) (x : Exchange) (role : Role) (said heard : Bool) → Recalls me k l → IsRecent me k x.round
    → role ≡ role_of me x → said ≡ said_in l kinds.Key x role → heard ≡ is_some (heard_in l kinds.Key x (other_role role))
    → not (said || heard) ≡ lacks_keys me k x
keys_known me k l x role said heard h recent own is_said is_heard =
    let said_known : said ≡ has_said_of k kinds.Key x (role_of me x) =
    is_said ∙ ap (said_in l kinds.Key x) own ∙ sym (h.said kinds.Key x (role_of me x) recent)
    in
    λ i. not (said_known i || partner_heard me k l kinds.Key x role heard h recent own is_heard i)

-- the arguments: whether the own CASE is said, the partner's is heard, it is version 3, a KEY is said, a KEY is heard, a CASE is in time,
-- and a KEY is in time
due : (case heard third said key now late : Bool) → ((case && (if third then not (said || key) else not heard)) && now) ≡ true → late ≡ true
    → (((case && heard) && not key) && late) ≡ heard
due false heard third said key now late e t = absurd (false≢true e)
due true heard true true key now late e t = absurd (false≢true e)
due true heard true false true now late e t = absurd (false≢true e)
due true true true false false now late e t = t
due true false true false false now late e t = refl
due true true false said key now late e t = absurd (false≢true e)
due true false false said key now late e t = refl

key_due : (me : Member) (k : Knowledge) (x : Exchange) → IsMember me → lacks_case me k x ≡ true
    → lacks_key me k x ≡ has_heard_of k kinds.Case x (other_role (role_of me x))
key_due me k x member lacks =
    due (has_said_of k kinds.Case x (role_of me x)) (has_heard_of k kinds.Case x (other_role (role_of me x))) (is_third me.session.shape)
    (has_said_of k kinds.Key x (role_of me x)) (has_heard_of k kinds.Key x (other_role (role_of me x)))
    (is_in_time me.session k kinds.Case x.round) (is_in_time me.session k kinds.Key x.round)
    lacks (le-leb _ _ (case_recent me k x member lacks))

-- if the partner's CASE is heard, the KEYREQ is sent after the CASE
pub with_key_request : (me : Member) (k : Knowledge) (x : Exchange) → IsMember me → lacks_case me k x ≡ true
    → has_heard_of k kinds.Case x (other_role (role_of me x)) ≡ true
    → case_again me k x ++ orders_when (lacks_key me k x) (AskKey x ∷ []) ≡ Resend kinds.Case x ∷ AskKey x ∷ []
with_key_request me k x member lacks heard =
    λ i.
    (orders_when (not (heard i)) (reveals x.kind (role_of me x) x) ++ Resend kinds.Case x ∷ [])
    ++ orders_when ((key_due me k x member lacks ∙ heard) i) (AskKey x ∷ [])

pub without_key_request : (me : Member) (k : Knowledge) (x : Exchange) → IsMember me → lacks_case me k x ≡ true
    → has_heard_of k kinds.Case x (other_role (role_of me x)) ≡ false
    → case_again me k x ++ orders_when (lacks_key me k x) (AskKey x ∷ []) ≡ reveals x.kind (role_of me x) x ++ Resend kinds.Case x ∷ []
without_key_request me k x member lacks unheard =
    (λ i.
    (orders_when (not (unheard i)) (reveals x.kind (role_of me x) x) ++ Resend kinds.Case x ∷ [])
    ++ orders_when ((key_due me k x member lacks ∙ unheard) i) (AskKey x ∷ []))
    ∙ append-nil (reveals x.kind (role_of me x) x ++ Resend kinds.Case x ∷ [])
