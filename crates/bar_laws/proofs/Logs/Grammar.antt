-- What the grammar says of an admitted datagram: its parties, its round, and that it is read back.
use Rattle.bar_wire.specs.Limits.{everyone}
use Rattle.bar_rules.specs.Peer.Admission.{is_for, is_to_all}
use Rattle.bar_rules.specs.Peer.Log.{Log, Heard, first_heard, is_announced, names_party}
use Rattle.bar_rules.specs.Member.{Session, Member}
use Rattle.bar_rules.specs.Peer.Rules.{Allows, IsObedient}
use Rattle.bar_rules.specs.Values.{datagram_of, datagram_bytes}
use Rattle.bar_window.specs.declared.exchange.Role.{Role}
use Rattle.bar_window.specs.declared.exchange.XKind.{XKind}
use Rattle.bar_wire.specs.declared.shape.Shape.{Shape}
use Rattle.bar_wire.specs.Bodies.{evictions_in}
use Rattle.bar_wire.specs.Datagram.{Message, Datagram, Body, Request, Response, Divulge, Query, Reply, Case, KeyReq, Key, Evict, kind_of, part_of}
use Rattle.bar_wire.specs.Grammar.{IsDatagram, InRange, IsRound, IsPeer, MaySend, RisesTo}
use Rattle.std.proofs.Common.{◌≡◌, ◌≢◌, ℕ, ◌≤◌, true, false, Bool, List, [], ◌∷◌, refl, sym, ◌∙◌, subst, eqb, cond, arith}
use Rattle.std.specs.Prelude.{Option, Some, None, is_some}
use Rattle.std.specs.List.{list_any}
use Rattle.std.proofs.lemmas.Bool.{both_ways, eqb-true, ne_eqb}
use Rattle.bar_laws.proofs.Logs.Facts.{only_told, is_told}
use Rattle.bar_laws.proofs.Logs.FirstFinds.{allowed-at}
use Rattle.bar_laws.proofs.Logs.LaterLogs.{WasHeard, first_heard-was}
use Rattle.bar_laws.proofs.Logs.Tables.{admitted-for}

-- the bytes that are read are those of the datagram
pub spells : (s : Session) (b : List ℕ) (d : Datagram) → datagram_of s b ≡ Some d → datagram_bytes s d ≡ b
spells s b d e = sym (only_told s.shape d b e).is

pub reads-back : (s : Session) (b : List ℕ) (d : Datagram) → datagram_of s b ≡ Some d → datagram_of s (datagram_bytes s d) ≡ Some d
reads-back s b d e = subst (λ z. datagram_of s z ≡ Some d) (sym (spells s b d e)) e

pub fits-back : (s : Session) (d : Datagram) → IsDatagram s.shape d → datagram_of s (datagram_bytes s d) ≡ Some d
fits-back s d fits = is_told s.shape d (datagram_bytes s d) (record { fits = fits; is = refl })

-- the bytes of a datagram in the grammar are read as nothing else
pub fits-reads : (s : Session) (d : Datagram) → IsDatagram s.shape d → (e : Datagram) → datagram_of s (datagram_bytes s d) ≡ Some e → e ≡ d
fits-reads s d fits e reads = let back : datagram_of s (datagram_bytes s d) ≡ Some d = fits-back s d fits in cc

pub read-fits : (s : Session) (b : List ℕ) (d : Datagram) → datagram_of s b ≡ Some d → IsDatagram s.shape d
read-fits s b d e = (only_told s.shape d b e).fits

pub heard-fits : (me : Member) (before : Log) (d : Datagram) → Allows me before (Heard d) → IsDatagram me.session.shape d
heard-fits me before d a = read-fits me.session (datagram_bytes me.session d) d a.1

pub was-heard-fits : (me : Member) (log : Log) (d : Datagram) → WasHeard log d → IsObedient me log → IsDatagram me.session.shape d
was-heard-fits me log d w h = heard-fits me w.before d (allowed-at me log w.before (Heard d) w.place h).0

-- a message of an exchange is of a round of the session, from one peer to another
pub part-in-range : (s : Shape) (b : Body) (p : ℕ × XKind × Role) → part_of b ≡ Some p → InRange s b → IsRound s p.0
part-in-range s (Request r seed c) p e range = let same : r ≡ p.0 = cc in subst (λ z. IsRound s z) same range
part-in-range s (Response r hb) p e range = let same : r ≡ p.0 = cc in subst (λ z. IsRound s z) same range
part-in-range s (Divulge r n ha) p e range = let same : r ≡ p.0 = cc in subst (λ z. IsRound s z) same range
part-in-range s (Query r seed y o) p e range = let same : r ≡ p.0 = cc in subst (λ z. IsRound s z) same range
part-in-range s (Reply r w g z) p e range = let same : r ≡ p.0 = cc in subst (λ z. IsRound s z) same range.0
part-in-range s (Case c) p e range = let same : c.round ≡ p.0 = cc in subst (λ z. IsRound s z) same range.0
part-in-range s (KeyReq r k role) p e range = let same : r ≡ p.0 = cc in subst (λ z. IsRound s z) same range
part-in-range s (Key k) p e range = let same : k.round ≡ p.0 = cc in subst (λ z. IsRound s z) same range
part-in-range s _ p e range = cc

pub part-of-peers : (s : Shape) (b : Body) (p : ℕ × XKind × Role) (from to : ℕ) → part_of b ≡ Some p → MaySend s (kind_of b) from to → IsPeer s from × IsPeer s to × (from ≢ to)
part-of-peers s (Request r seed c) p from to e may = may
part-of-peers s (Response r hb) p from to e may = may
part-of-peers s (Divulge r n ha) p from to e may = may
part-of-peers s (Query r seed y o) p from to e may = may
part-of-peers s (Reply r w g z) p from to e may = may
part-of-peers s (Case c) p from to e may = may
part-of-peers s (KeyReq r k role) p from to e may = may
part-of-peers s (Key k) p from to e may = may
part-of-peers s _ p from to e may = cc

pub part-to-one : (b : Body) (p : ℕ × XKind × Role) → part_of b ≡ Some p → is_to_all b ≡ false
part-to-one (Request r seed c) p e = refl
part-to-one (Response r hb) p e = refl
part-to-one (Divulge r n ha) p e = refl
part-to-one (Query r seed y o) p e = refl
part-to-one (Reply r w g z) p e = refl
part-to-one (Case c) p e = refl
part-to-one (KeyReq r k role) p e = refl
part-to-one (Key k) p e = refl
part-to-one _ p e = cc

-- a datagram in the log that is for this member alone
pub record IsForOneMember (me : Member) (d : Datagram) : Type 0 where
  pub to : d.message.to ≡ me.party
  pub other : d.message.from ≡ me.party → ⊥

for-one : (b : Bool) (to party : ℕ) → b ≡ false → cond b (eqb to everyone) (eqb to party) ≡ true → to ≡ party
for-one false to party e h = eqb-true _ _ h
for-one true to party e h = cc

pub for-me : (me : Member) (m : Message) → is_to_all m.body ≡ false → is_for me m ≡ true → m.to ≡ me.party
for-me me m one own = for-one (is_to_all m.body) m.to me.party one own

-- an admitted message of an exchange is to this member, and not from it
pub heard-own : (me : Member) (before : Log) (d : Datagram) (p : ℕ × XKind × Role) → Allows me before (Heard d) → part_of d.message.body ≡ Some p → IsForOneMember me d
heard-own me before d p a e =
    let to : d.message.to ≡ me.party = for-me me d.message (part-to-one d.message.body p e) (admitted-for me before d a.0) in
    let peers = part-of-peers me.session.shape d.message.body p d.message.from d.message.to e (heard-fits me before d a).may_send in
    record { to = to; other = λ z. peers.2 (z ∙ sym to) }

pub was-heard-own : (me : Member) (log : Log) (d : Datagram) (p : ℕ × XKind × Role) → WasHeard log d → IsObedient me log → part_of d.message.body ≡ Some p → IsForOneMember me d
was-heard-own me log d p w h e = heard-own me w.before d p (allowed-at me log w.before (Heard d) w.place h).0 e

pub heard-round : (me : Member) (before : Log) (d : Datagram) (p : ℕ × XKind × Role) → Allows me before (Heard d) → part_of d.message.body ≡ Some p → (1 ≤ p.0) × (p.0 ≤ me.session.shape.rounds)
heard-round me before d p a e =
    let r : IsRound me.session.shape p.0 = part-in-range me.session.shape d.message.body p e (heard-fits me before d a).range in
    (omega (arith, r.0), r.1)

-- ---- the broadcaster is never announced evicted

rises-above : (high low : ℕ) (ps : List ℕ) → RisesTo high low ps → list_any (λ q. eqb q 0) ps ≡ false
rises-above high low [] r = refl
rises-above high low (p ∷ ps) r = rw (ne_eqb p 0 (λ z. absurd (omega (arith, z, r.0)))) (rises-above high p ps r.2)

-- a notice names only peers
names-peers : (s : Shape) (b : Body) → InRange s b → list_any (λ q. eqb q 0) (evictions_in b) ≡ false
names-peers s (Evict r ps) range = rises-above s.peers 0 ps range.1.2
names-peers s b range = refl

pub unannounced : (me : Member) (log : Log) → IsObedient me log → is_announced log 0 ≡ false
unannounced me log h = go (first_heard (names_party 0) log) refl
  where
    go : (o : Option Datagram) → first_heard (names_party 0) log ≡ o → is_some o ≡ false
    go None e = refl
    go (Some d) e =
        let was = first_heard-was (names_party 0) log d e in
        absurd (both_ways (list_any (λ q. eqb q 0) (evictions_in d.message.body)) (names-peers me.session.shape d.message.body (was-heard-fits me log d was.0 h).range) was.1)
