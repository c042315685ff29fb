-- No datagram has more bytes than the largest of its kind.
use Rattle.bar_bytes.specs.Bytes.{u16_bytes}
use Rattle.bar_bytes.proofs.Lengths.{length_u16, length_u32}
use Rattle.bar_rules.specs.Member.{Member}
use Rattle.bar_rules.specs.Peer.Log.{Log}
use Rattle.bar_rules.specs.Peer.Rules.{IsObedient}
use Rattle.bar_rules.specs.Peer.Sizes.{most_fields, largest}
use Rattle.bar_window.specs.Terms.{Terms}
use Rattle.bar_window.specs.Terms as forms
use Rattle.bar_window.specs.declared.exchange.XKind.{XKind}
use Rattle.bar_wire.specs.Datagram.{Datagram, Body, Manifest, Block, Request, Response, Divulge, Query, Reply, Case, KeyReq, Key, Evidence, Evict, kind_of}
use Rattle.bar_wire.specs.Grammar.{IsDatagram, IsEntryInRange, HasForm, HasTermForm, InRange, entry, pieces, term_pieces, message_bytes, spelling}
use Rattle.bar_wire.specs.Limits.{largest_datagram}
use Rattle.bar_wire.specs.Places.{window_len}
use Rattle.bar_wire.specs.declared.shape.Shape.{Shape}
use Rattle.std.proofs.Common.{◌≡◌, ℕ, ◌+◌, ◌*◌, ◌≤◌, List, [], ◌∷◌, length, arith, length-append}
use Rattle.std.proofs.Math.Nat.{le-max_left, le-max_right}
use Rattle.std.specs.List.{concat, flat_map, AllByRecursion}
use Rattle.std.specs.Prelude.{max}
use Rattle.bar_wire.proofs.FieldLengths.{length_digests, length_parties}
use Rattle.bar_wire.proofs.WindowLaws.{length_set}
use Rattle.bar_wire.proofs.Written.{message_len}
use Rattle.bar_laws.specs.Sizes.{FitRooms}
use Rattle.bar_laws.proofs.Logs.{was-heard-fits}
use Rattle.bar_laws.proofs.Judging.{heard-was}

-- ---- the parts

entries-short : (ds : List (List ℕ)) → AllByRecursion IsEntryInRange ds → length (flat_map entry ds) ≤ (2 + largest_datagram) * length ds
entries-short [] fit = omega arith
entries-short (d ∷ ds) fit =
    let first : length (entry d) ≡ 2 + length d = omega (arith, length-append (u16_bytes (length d)) d, length_u16 (length d)) in
    omega (arith, length-append (entry d) (flat_map entry ds), first, fit.0.1, entries-short ds fit.1)

terms-largest : (s : Shape) (round : ℕ) (kind : XKind) (t : Terms) → HasTermForm s round kind t → length (concat (term_pieces s round t)) ≤ max (32 + 2 * window_len s) (4 * window_len s + 1)
terms-largest s round kind (forms.Balanced nonce ha hb) form =
    let most = le-max_left (32 + 2 * window_len s) (4 * window_len s + 1) in
    let a = length_set s round ha in
    let b = length_set s round hb in
    simp length-append (omega (arith, most, a, b, form.1))
terms-largest s round kind (forms.Push young aged want give junk) form =
    let most = le-max_right (32 + 2 * window_len s) (4 * window_len s + 1) in
    let a = length_set s round young in
    let b = length_set s round aged in
    let c = length_set s round want in
    let d = length_set s round give in
    simp length-append (omega (arith, most, a, b, c, d))

fields-largest : (s : Shape) (b : Body) → HasForm s b → InRange s b → length (concat (pieces s b)) ≤ most_fields s (kind_of b)
fields-largest s (Manifest r digests) form range = let long = length_digests digests form.1 in simp (length-append, length_u32) (omega (arith, long, range.1))
fields-largest s (Block u block) form range = simp (length-append, length_u32) (omega (arith, form.1))
fields-largest s (Request r seed commitment) form range = simp (length-append, length_u32) (omega (arith, form.1, form.2))
fields-largest s (Response r hb) form range = let a = length_set s r hb in simp (length-append, length_u32) (omega (arith, a))
fields-largest s (Divulge r nonce ha) form range = let a = length_set s r ha in simp (length-append, length_u32) (omega (arith, form.1, a))
fields-largest s (Query r seed young aged) form range =
    let a = length_set s r young in
    let b = length_set s r aged in
    simp (length-append, length_u32) (omega (arith, form.1, a, b))
fields-largest s (Reply r want give junk) form range =
    let a = length_set s r want in
    let b = length_set s r give in
    simp (length-append, length_u32) (omega (arith, a, b))
fields-largest s (Case c) form range =
    let a = terms-largest s c.round c.kind c.terms form.1 in
    simp (length-append, length_u32) (omega (arith, a, form.2, range.2))
fields-largest s (KeyReq r kind role) form range = simp (length-append, length_u32) (omega arith)
fields-largest s (Key k) form range = simp (length-append, length_u32) (omega (arith, form.1))
fields-largest s (Evidence datagrams) form range = let a = entries-short datagrams range.2 in simp length-append (omega (arith, a, range.1))
fields-largest s (Evict r parties) form range = let a = length_parties parties in simp (length-append, length_u32) (omega (arith, a, range.1.1))

-- ---- the datagram

pub fits-largest : (s : Shape) (d : Datagram) → IsDatagram s d → length (spelling s d) ≤ largest s (kind_of d.message.body)
fits-largest s d fits =
    let header = message_len s d.message in
    let fields = fields-largest s d.message.body fits.form fits.range in
    let whole = length-append (message_bytes s d.message) d.signature in
    omega (arith, whole, header, fields, fits.signature_long)

pub heard-largest : (me : Member) (log : Log) → IsObedient me log → FitRooms me log
heard-largest me log h d c = fits-largest me.session.shape d (was-heard-fits me log d (heard-was log d c) h)
