-- When a datagram is admitted, when it is refused, and when it is searched for evidence.
use Rattle.std.proofs.Common.{◌≡◌, ◌∙◌, ◌+◌, ◌==◌, is_some, nat_le, ℕ, Bool, true, false, Some, None, ◌&&◌, not, sym, ap, refl}
use Rattle.std.specs.Prelude.{if◌then◌else◌}
use Rattle.std.proofs.lemmas.Bool.{and_parts, false≢true}
use Rattle.std.proofs.lemmas.Option.{same_Some}
use Rattle.bar_window.specs.declared.exchange.Role.{Role}
use Rattle.bar_window.specs.declared.exchange.Role.TheVariants.{Initiator, Responder}
use Rattle.bar_window.specs.declared.exchange.XKind.{XKind}
use Rattle.bar_window.specs.declared.exchange.XKind.TheVariants.{Balanced, Push}
use Rattle.bar_wire.specs.Bodies.{is_peer_kind}
use Rattle.bar_wire.specs.Datagram.{Message, Datagram, Place, place_by, place_of, Body, Manifest, Block, Request, Response, Divulge, Query, Reply, Case, KeyReq, Key, Evidence, Evict, round_of}
use Rattle.bar_wire.proofs.Signed.{peer_kind_signed}
use Rattle.bar_rules.specs.Member.{Session, Member}
use Rattle.bar_rules.specs.Values.{is_signed_by}
use Rattle.bar_rules.specs.Peer.Admission.{is_admitted, is_for, is_heard_again, is_row_met, has_valid_signature}
use Rattle.bar_rules.specs.Peer.Evidence.{is_tried}
use Rattle.bar_rules.specs.Peer.Knowledge.{Knowledge, this_round}
use Rattle.bar_peer.specs.Code.Trying.{may_admit, may_show}
use Rattle.bar_store.proofs.Learns.{and_true, and_false}

-- ---- admission without the signature

abbrev is_named : Knowledge → Datagram → Bool
is_named k d = k.is_announced d.message.from

abbrev is_again : Knowledge → Datagram → Bool
is_again k d = is_heard_again k d.message

abbrev is_met : Member → Knowledge → Datagram → Bool
is_met me k d = is_row_met me k d.message.from d.message.to d.message.body

pub refused_elsewhere : (me : Member) (k : Knowledge) (d : Datagram) → is_for me d.message ≡ false → false ≡ may_admit me k d
refused_elsewhere me k d is = λ i. sym is i && not (is_named k d) && not (is_again k d) && is_met me k d

pub refused_evicted : (me : Member) (k : Knowledge) (d : Datagram) → is_named k d ≡ true → false ≡ may_admit me k d
refused_evicted me k d is =
    (λ i. and_false (is_for me d.message) i && not (is_again k d) && is_met me k d)
    ∙ (λ i. is_for me d.message && not (sym is i) && not (is_again k d) && is_met me k d)

pub refused_by_row : (me : Member) (k : Knowledge) (d : Datagram) → is_met me k d ≡ false → false ≡ may_admit me k d
refused_by_row me k d is =
    and_false (is_for me d.message && not (is_named k d) && not (is_again k d))
    ∙ (λ i. is_for me d.message && not (is_named k d) && not (is_again k d) && sym is i)

-- If the row is met, the test for a namesake is exact. So a namesake refuses the datagram, or the row decides.
pub refused_again : (me : Member) (k : Knowledge) (d : Datagram) (again : Bool) → again ≡ true → (is_met me k d ≡ true → again ≡ is_again k d)
    → false ≡ may_admit me k d
refused_again me k d again is told = go (is_met me k d) refl
  where
    before : Bool
    before = is_for me d.message && not (is_named k d)

    go : (met : Bool) → is_met me k d ≡ met → false ≡ may_admit me k d
    go false e = refused_by_row me k d e
    go true e =
        (λ i. and_false before i && is_met me k d)
        ∙ (λ i. before && not ((sym is ∙ told e) i) && is_met me k d)

pub admitted_by_row : (me : Member) (k : Knowledge) (d : Datagram) (again : Bool) → is_for me d.message ≡ true → is_named k d ≡ false
    → again ≡ false → (is_met me k d ≡ true → again ≡ is_again k d) → is_met me k d ≡ may_admit me k d
admitted_by_row me k d again ours free is told = go (is_met me k d) refl
  where
    go : (met : Bool) → is_met me k d ≡ met → is_met me k d ≡ may_admit me k d
    go false e = e ∙ refused_by_row me k d e
    go true e = (λ i. sym ours i && not (sym free i) && not ((sym is ∙ told e) i) && is_met me k d)

-- a datagram of a kind that peers sign is of an exchange, and of the round of this
pub peer_placed : (m : Message) → is_peer_kind m.body ≡ true → place_of m ≡ None → ⊥
peer_placed m e none = go m.body e none
  where
    go : (b : Body) → is_peer_kind b ≡ true → place_of (record { from = m.from; to = m.to; body = b }) ≡ None → ⊥
    go (Request r s c) e none = cc
    go (Response r hb) e none = cc
    go (Query r s y o) e none = cc
    go (Reply r w g z) e none = cc
    go (Case c) e none = cc
    go (Key g) e none = cc
    go (Manifest r ds) e none = false≢true e
    go (Block u b) e none = false≢true e
    go (Divulge r n ha) e none = false≢true e
    go (KeyReq r kind role) e none = false≢true e
    go (Evidence ds) e none = false≢true e
    go (Evict r ps) e none = false≢true e

round_by : (r : ℕ) (kind : XKind) (role : Role) (from to : ℕ) (p : Place) → Some (place_by from to (r, kind, role)) ≡ Some p
    → p.exchange.round ≡ r
round_by r kind Initiator from to p e = ap (λ (p : Place). p.exchange.round) (sym (same_Some _ p e))
round_by r kind Responder from to p e = ap (λ (p : Place). p.exchange.round) (sym (same_Some _ p e))

pub peer_round : (m : Message) (p : Place) → is_peer_kind m.body ≡ true → place_of m ≡ Some p → p.exchange.round ≡ round_of m.body
peer_round m p e at = go m.body e at
  where
    go : (b : Body) → is_peer_kind b ≡ true → place_of (record { from = m.from; to = m.to; body = b }) ≡ Some p → p.exchange.round ≡ round_of b
    go (Request r s c) e at = round_by r Balanced Initiator m.from m.to p at
    go (Response r hb) e at = round_by r Balanced Responder m.from m.to p at
    go (Query r s y o) e at = round_by r Push Initiator m.from m.to p at
    go (Reply r w g z) e at = round_by r Push Responder m.from m.to p at
    go (Case c) e at = round_by c.round c.kind c.role m.from m.to p at
    go (Key g) e at = round_by g.round g.kind g.role m.from m.to p at
    go (Manifest r ds) e at = absurd (false≢true e)
    go (Block u b) e at = absurd (false≢true e)
    go (Divulge r n ha) e at = absurd (false≢true e)
    go (KeyReq r kind role) e at = absurd (false≢true e)
    go (Evidence ds) e at = absurd (false≢true e)
    go (Evict r ps) e at = absurd (false≢true e)

-- if all other conditions hold, the round decides
pub shown_if_recent : (me : Member) (k : Knowledge) (d : Datagram) → is_peer_kind d.message.body ≡ true → (d.message.to == me.party) ≡ true
    → is_named k d ≡ false → is_some (k.evidence d.message.from) ≡ false
    → nat_le (this_round k) (round_of d.message.body + me.session.shape.life) ≡ may_show me k d
shown_if_recent me k d peer mine free none =
    λ i. sym peer i && sym mine i && not (sym free i) && not (sym none i)
    && nat_le (this_round k) (round_of d.message.body + me.session.shape.life)

-- ---- admission with the signature

signature_last : (a b v c m : Bool) → (a && b && v && c && m) ≡ (a && b && c && m && v)
signature_last a b true c m = (λ i. sym (and_true (a && b)) i && c && m) ∙ and_true (a && b && c && m)
signature_last a b false c m = (λ i. sym (and_false (a && b)) i && c && m) ∙ and_false (a && b && c && m)

pub admitted_by_signature : (me : Member) (k : Knowledge) (d : Datagram)
    → is_admitted me k d ≡ (may_admit me k d && has_valid_signature me.session d)
unfolding is_admitted
admitted_by_signature me k d =
    signature_last (is_for me d.message) (not (is_named k d)) (has_valid_signature me.session d) (not (is_again k d)) (is_met me k d)

pub tried_by_signature : (me : Member) (k : Knowledge) (d : Datagram) → is_tried me k d ≡ (may_show me k d && is_signed_by me.session d)
tried_by_signature me k d =
    signature_last (is_peer_kind d.message.body && (d.message.to == me.party)) (not (is_named k d)) (is_signed_by me.session d)
    (not (is_some (k.evidence d.message.from)))
    (nat_le (this_round k) (round_of d.message.body + me.session.shape.life))

-- a kind that peers sign is signed
pub valid_of_peer : (s : Session) (d : Datagram) → is_peer_kind d.message.body ≡ true → has_valid_signature s d ≡ is_signed_by s d
valid_of_peer s d e = ap (λ b. if b then is_signed_by s d else true) (peer_kind_signed d.message.body e)

-- ---- if a condition fails

pub unadmitted : (me : Member) (k : Knowledge) (d : Datagram) → may_admit me k d ≡ false → false ≡ is_admitted me k d
unadmitted me k d is = sym (admitted_by_signature me k d ∙ (λ i. is i && has_valid_signature me.session d))

pub untried : (me : Member) (k : Knowledge) (d : Datagram) → may_show me k d ≡ false → false ≡ is_tried me k d
untried me k d is = sym (tried_by_signature me k d ∙ (λ i. is i && is_signed_by me.session d))

-- a datagram that may show evidence is of a kind that peers sign, and its exchange may still be asked about
pub shows_peer_kind : (me : Member) (k : Knowledge) (d : Datagram) → may_show me k d ≡ true → is_peer_kind d.message.body ≡ true
shows_peer_kind me k d e = (and_parts _ _ (and_parts _ _ (and_parts _ _ (and_parts _ _ e).0).0).0).0

pub shows_signed : (me : Member) (k : Knowledge) (d : Datagram) → may_show me k d ≡ true → has_valid_signature me.session d ≡ is_signed_by me.session d
shows_signed me k d e = valid_of_peer me.session d (shows_peer_kind me k d e)

-- ---- weighing

-- whether a datagram is admitted and tried follows from the tests without the signature and from whether the signature is accepted
pub weighed_admitted : (me : Member) (k : Knowledge) (d : Datagram) (may valid : Bool) → may ≡ may_admit me k d
    → (may ≡ true → valid ≡ has_valid_signature me.session d) → (may && valid) ≡ is_admitted me k d
weighed_admitted me k d true valid is told = (λ i. is i && told refl i) ∙ sym (admitted_by_signature me k d)
weighed_admitted me k d false valid is told = unadmitted me k d (sym is)

pub weighed_tried : (me : Member) (k : Knowledge) (d : Datagram) (may valid : Bool) → may ≡ may_show me k d
    → (may ≡ true → valid ≡ has_valid_signature me.session d) → (may && valid) ≡ is_tried me k d
weighed_tried me k d true valid is told =
    (λ i. is i && (told refl ∙ shows_signed me k d (sym is)) i) ∙ sym (tried_by_signature me k d)
weighed_tried me k d false valid is told = untried me k d (sym is)
