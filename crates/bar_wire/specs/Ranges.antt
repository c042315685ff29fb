-- The datagrams that have an encoding, decided rule by rule.
use Rattle.std.specs.Prelude.{ℕ, ◌≡◌, ◌+◌, ◌*◌, ◌^◌, Bool, List, [], ◌∷◌, length}
use Rattle.std.proofs.Common.{ap}
use Rattle.std.proofs.lemmas.Bool.{eq-eqb}
use Rattle.bar_window.specs.Limits.{block_size, junk_size, most_items}
use Rattle.bar_window.specs.declared.update.UpdateId.{UpdateId}
use Rattle.bar_window.specs.declared.exchange.XKind.{XKind}
use Rattle.bar_window.specs.declared.exchange.XKind.TheVariants.{Balanced, Push}
use Rattle.bar_window.specs.Updates.{is_set_of}
use Rattle.bar_window.specs.Exchange.{kind_code, same_kind}
use Rattle.bar_window.specs.Terms.{Terms}
use Rattle.bar_window.specs.Terms as forms
use Rattle.bar_window.proofs.Exchanges.{same_kind-is}
use Rattle.bar_window.proofs.Spelling.{set_test, set_passes}
use Rattle.bar_wire.specs.declared.shape.Shape.{Shape}
use Rattle.bar_wire.specs.declared.kind.Kind.{Kind}
use Rattle.bar_wire.specs.declared.kind.Kind.TheVariants as kinds
use Rattle.bar_wire.specs.Limits.{everyone, largest_datagram}
use Rattle.bar_wire.specs.Datagram.{Datagram, Body, Manifest, Block, Request, Response, Divulge, Query, Reply, Case, KeyReq, Key, Evidence, Evict, kind_of, round_of}
use Rattle.bar_wire.specs.Decision.{Decision, below, at_most, equal, different, always, likewise, both, three, four, five, each}
use Rattle.bar_wire.specs.Grammar.{words_of, signature_len, IsWindowSet, HasTermForm, HasForm, IsRound, IsPeer, RisesTo, IsEntryInRange, AreDatagramsInRange, ArePartiesInRange, HasFewJunk, InRange, MaySend, IsDatagram}

-- ---- widths and lengths

abbrev pub kind_decided : (k l : XKind) → Decision (k ≡ l)
kind_decided k l = record {
  test = same_kind k l;
  tells = (same_kind-is k l, λ same. eq-eqb (kind_code k) (kind_code l) (ap kind_code same));
}

abbrev pub set_decided : (s : Shape) (round : ℕ) (us : List UpdateId) → Decision (IsWindowSet s round us)
set_decided s round us = record {
  test = is_set_of (words_of s) s.life round us;
  tells = (set_test (words_of s) s.life round us, set_passes (words_of s) s.life round us);
}

abbrev pub term_form_decided : (s : Shape) (r : ℕ) (kind : XKind) (t : Terms) → Decision (HasTermForm s r kind t)
term_form_decided s r kind (forms.Balanced nonce ha hb) =
    four (kind_decided kind Balanced) (equal (length nonce) 32) (set_decided s r ha) (set_decided s r hb)
term_form_decided s r kind (forms.Push young aged want give junk) =
    five (kind_decided kind Push) (set_decided s r young) (set_decided s r aged) (set_decided s r want) (set_decided s r give)

abbrev pub form_decided : (s : Shape) (b : Body) → Decision (HasForm s b)
form_decided s (Manifest r digests) = both (below r (2 ^ 32)) (each (λ (d : List ℕ). equal (length d) 32) digests)
form_decided s (Block u block) = both (below u.round (2 ^ 32)) (equal (length block) block_size)
form_decided s (Request r seed commitment) = three (below r (2 ^ 32)) (equal (length seed) 32) (equal (length commitment) 32)
form_decided s (Response r hb) = both (below r (2 ^ 32)) (set_decided s r hb)
form_decided s (Divulge r nonce ha) = three (below r (2 ^ 32)) (equal (length nonce) 32) (set_decided s r ha)
form_decided s (Query r seed young aged) =
    four (below r (2 ^ 32)) (equal (length seed) 32) (set_decided s r young) (set_decided s r aged)
form_decided s (Reply r want give junk) = three (below r (2 ^ 32)) (set_decided s r want) (set_decided s r give)
form_decided s (Case c) =
    three (below c.round (2 ^ 32)) (term_form_decided s c.round c.kind c.terms) (equal (length c.cipher) (block_size * c.updates + junk_size * c.junk))
form_decided s (KeyReq r kind role) = below r (2 ^ 32)
form_decided s (Key k) = both (below k.round (2 ^ 32)) (equal (length k.key) 32)
form_decided s (Evidence datagrams) = each (λ (d : List ℕ). below (length d) (2 ^ 16)) datagrams
form_decided s (Evict r parties) = both (below r (2 ^ 32)) (each (λ (p : ℕ). below p (2 ^ 16)) parties)

-- ---- ranges

abbrev pub round_decided : (s : Shape) (round : ℕ) → Decision (IsRound s round)
round_decided s round = both (below 0 round) (at_most round s.rounds)

abbrev pub peer_decided : (s : Shape) (p : ℕ) → Decision (IsPeer s p)
peer_decided s p = both (below 0 p) (at_most p s.peers)

abbrev pub rising_decided : (high low : ℕ) (ps : List ℕ) → Decision (RisesTo high low ps)
rising_decided high low [] = always
rising_decided high low (p ∷ ps) = three (below low p) (at_most p high) (rising_decided high p ps)

abbrev pub entry_decided : (datagram : List ℕ) → Decision (IsEntryInRange datagram)
entry_decided datagram = both (below 0 (length datagram)) (at_most (length datagram) largest_datagram)

abbrev pub datagrams_decided : (datagrams : List (List ℕ)) → Decision (AreDatagramsInRange datagrams)
datagrams_decided datagrams = three (below 0 (length datagrams)) (at_most (length datagrams) 2) (each entry_decided datagrams)

abbrev pub parties_decided : (peers : ℕ) (parties : List ℕ) → Decision (ArePartiesInRange peers parties)
parties_decided peers parties = three (below 0 (length parties)) (at_most (length parties) peers) (rising_decided peers 0 parties)

abbrev pub junk_decided : (t : Terms) → Decision (HasFewJunk t)
junk_decided (forms.Balanced nonce ha hb) = always
junk_decided (forms.Push young aged want give junk) = at_most junk most_items

abbrev pub range_decided : (s : Shape) (b : Body) → Decision (InRange s b)
range_decided s (Manifest r digests) = both (round_decided s r) (at_most (length digests) s.per_round)
range_decided s (Block u block) = both (round_decided s u.round) (below u.index s.per_round)
range_decided s (Reply r want give junk) = both (round_decided s r) (at_most junk most_items)
range_decided s (Case c) =
    four (round_decided s c.round) (below 0 (c.updates + c.junk)) (at_most (c.updates + c.junk) most_items) (junk_decided c.terms)
range_decided s (Evidence datagrams) = datagrams_decided datagrams
range_decided s (Evict r parties) = both (round_decided s r) (parties_decided s.peers parties)
range_decided s b = round_decided s (round_of b)

abbrev pub sending_decided : (s : Shape) (kind : Kind) (from to : ℕ) → Decision (MaySend s kind from to)
sending_decided s kinds.Manifest from to = both (equal from 0) (equal to everyone)
sending_decided s kinds.Evict from to = both (equal from 0) (equal to everyone)
sending_decided s kinds.Block from to = both (equal from 0) (peer_decided s to)
sending_decided s kinds.Evidence from to = both (peer_decided s from) (equal to 0)
sending_decided s _ from to = three (peer_decided s from) (peer_decided s to) (different from to)

-- ---- datagrams

abbrev pub datagram_decided : (s : Shape) (d : Datagram) → Decision (IsDatagram s d)
datagram_decided s d =
    let m = d.message in
    let kind = kind_of m.body in
    let fields =
    five (below m.from (2 ^ 16)) (below m.to (2 ^ 16)) (form_decided s m.body) (range_decided s m.body) (sending_decided s kind m.from m.to)
    in
    likewise (both fields (equal (length d.signature) (signature_len s kind)))
    (λ h. record { from_fits = h.0.0; to_fits = h.0.1; form = h.0.2; range = h.0.3; may_send = h.0.4; signature_long = h.1 })
    (λ h. ((h.from_fits, h.to_fits, h.form, h.range, h.may_send), h.signature_long))

-- whether a datagram has an encoding
abbrev pub is_datagram : Shape → Datagram → Bool
is_datagram s d = (datagram_decided s d).test

-- whether these are the datagrams of an EVIDENCE
abbrev pub are_datagrams_in_range : List (List ℕ) → Bool
are_datagrams_in_range datagrams = (datagrams_decided datagrams).test
