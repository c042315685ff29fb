-- Which datagram was admitted under the name of another one.
use Rattle.std.proofs.Common.{◌≡◌, ℕ, ◌∙◌, Bool, true, false, List, Option, Some, None, sym, ap, refl, subst, Bor}
use Rattle.std.specs.Prelude.{option_map, is_some, IfSome, if◌then◌else◌}
use Rattle.std.proofs.lemmas.Slice.Eq.{bytes_eq-Decides}
use Rattle.std.specs.Bool.{then_some}
use Rattle.std.specs.Str.{bytes_eq}
use Rattle.bar_wire.specs.Datagram.{Message, Datagram, Body, Place, place_of, kind_of}
use Rattle.bar_wire.specs.Grammar.{IsDatagram, SpellsDatagram}
use Rattle.bar_wire.specs.Code.Views.{plain}
use Rattle.bar_wire.specs.declared.shape.Shape.{Shape}
use Rattle.bar_wire.specs.declared.view.Body.{Body as RawBody}
use Rattle.bar_wire.specs.declared.view.Body.TheVariants as raw
use Rattle.bar_ledger.specs.declared.ledger.Ledger.{Ledger}
use Rattle.bar_ledger.specs.Code.Lookups.{heard_in}
use Rattle.bar_ledger.specs.Code.Recalls.{Recalls}
use Rattle.bar_rules.specs.Member.{Session, Member}
use Rattle.bar_rules.specs.Values.{datagram_bytes}
use Rattle.bar_rules.specs.Peer.Admission.{is_named_again}
use Rattle.bar_rules.specs.Peer.Agreement.{IsRecent}
use Rattle.bar_rules.specs.Peer.Knowledge.{Knowledge}
use Rattle.bar_rules.specs.Peer.Replies.{heard_like, if_same, repeated}
use Rattle.bar_balanced.specs.Code.Balanced.{AreSpelled}
use Rattle.bar_peer.specs.Code.Repeats.{IsInTime}
use Rattle.bar_bytes.proofs.Options.{some-mapped}

-- while an exchange may be asked about, the ledger holds the datagram that was admitted at a place of it
pub like_in : (me : Member) (k : Knowledge) (l : Ledger) (m : Message) (p : Place) → Recalls me k l → place_of m ≡ Some p → IsInTime me k m
    → option_map (datagram_bytes me.session) (heard_like k m.body (place_of m)) ≡ heard_in l (kind_of m.body) p.exchange p.role
like_in me k l m p h is in_time =
    (λ i. option_map (datagram_bytes me.session) (heard_like k m.body (is i)))
    ∙ h.heard (kind_of m.body) p.exchange p.role
    (subst (λ (o : Option Place). IfSome (option_map (λ p. p.exchange) o) (λ x. IsRecent me k x.round)) is in_time)

-- a datagram of no exchange has no namesake
pub like_none : (s : Session) (k : Knowledge) (m : Message) → place_of m ≡ None
    → option_map (datagram_bytes s) (heard_like k m.body (place_of m)) ≡ None
like_none s k m is = λ i. option_map (datagram_bytes s) (heard_like k m.body (is i))

-- except for a MANIFEST or an EVICT, a datagram has an admitted namesake if and only if one was admitted at its place
pub named_like : (s : Session) (k : Knowledge) (from to : ℕ) (b : RawBody)
    → ((round count : ℕ) (digests : Bor (List ℕ)) → b ≡ raw.Manifest round count digests → ⊥)
    → ((round count : ℕ) (parties : Bor (List ℕ)) → b ≡ raw.Evict round count parties → ⊥)
    → is_some (option_map (datagram_bytes s) (heard_like k (plain b) (place_of (record { from = from; to = to; body = plain b }))))
    ≡ is_named_again k (place_of (record { from = from; to = to; body = plain b })) (plain b)
named_like s k from to (raw.Manifest round count digests) other neither = absurd (other round count digests refl)
named_like s k from to (raw.Evict round count parties) other neither = absurd (neither round count parties refl)
named_like s k from to (raw.Block round index block) other neither = refl
named_like s k from to (raw.Evidence count datagrams) other neither = refl
named_like s k from to (raw.Request round seed commitment) other neither = some-mapped (datagram_bytes s) _
named_like s k from to (raw.Response round hb) other neither = some-mapped (datagram_bytes s) _
named_like s k from to (raw.Divulge round nonce ha) other neither = some-mapped (datagram_bytes s) _
named_like s k from to (raw.Query round seed young aged) other neither = some-mapped (datagram_bytes s) _
named_like s k from to (raw.Reply round want give junk) other neither = some-mapped (datagram_bytes s) _
named_like s k from to (raw.Case round xkind role updates junk terms cipher) other neither = some-mapped (datagram_bytes s) _
named_like s k from to (raw.KeyReq round xkind role) other neither = some-mapped (datagram_bytes s) _
named_like s k from to (raw.Key round xkind role key) other neither = some-mapped (datagram_bytes s) _

-- ---- repeats

-- no bytes encode two datagrams
abbrev pub SpellOne : Type 0
SpellOne = (s : Shape) (d e : Datagram) (bytes : List ℕ) → SpellsDatagram s d bytes → SpellsDatagram s e bytes → d ≡ e

then_same : (same : Bool) (e d : Datagram) → (same ≡ true → e ≡ d) → then_some same e ≡ then_some same d
then_same true e d h = ap Some (h refl)
then_same false e d h = refl

same_as : (s : Session) (d : Datagram) (o : Option Datagram) (heard bytes : List ℕ) (same : Bool) → SpellOne
    → ((e : Datagram) → o ≡ Some e → IsDatagram s.shape e) → SpellsDatagram s.shape d bytes → option_map (datagram_bytes s) o ≡ Some heard
    → same ≡ bytes_eq heard bytes → if_same s d o ≡ then_some same d
same_as s d None heard bytes same one fits spells is eq = absurd (cc)
same_as s d (Some e) heard bytes same one fits spells is eq =
    let told : datagram_bytes s e ≡ heard = cc in
    let test : bytes_eq (datagram_bytes s e) (datagram_bytes s d) ≡ same = (λ i. bytes_eq (told i) (sym spells.is i)) ∙ sym eq in
    let here : same ≡ true → heard ≡ bytes = λ is_same. (bytes_eq-Decides heard bytes).0 (sym eq ∙ is_same) in
    ap (λ b. then_some b e) test
    ∙ then_same same e d (λ is_same. one s.shape e d bytes (record { fits = fits e refl; is = sym (told ∙ here is_same) }) spells)

pub spelled_like : (me : Member) (k : Knowledge) (b : Body) (o : Option Place) (e : Datagram) → AreSpelled me k → heard_like k b o ≡ Some e
    → IsDatagram me.session.shape e
spelled_like me k b None e h is = absurd (cc)
spelled_like me k b (Some p) e h is = h.spelled (kind_of b) p.exchange p.role e is

-- a datagram is a repeat if its bytes are those of the admitted one
pub repeats : (me : Member) (k : Knowledge) (d : Datagram) (heard bytes : List ℕ) (same : Bool) → SpellOne → AreSpelled me k
    → SpellsDatagram me.session.shape d bytes → k.is_announced d.message.from ≡ false
    → option_map (datagram_bytes me.session) (heard_like k d.message.body (place_of d.message)) ≡ Some heard → same ≡ bytes_eq heard bytes
    → repeated me k d ≡ then_some same d
repeats me k d heard bytes same one h spells free is eq =
    let like : Option Datagram = heard_like k d.message.body (place_of d.message) in
    (λ i. if free i then None else if_same me.session d like)
    ∙ same_as me.session d like heard bytes same one (λ e. spelled_like me k d.message.body (place_of d.message) e h) spells is eq
