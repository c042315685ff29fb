-- The places of the fields of a kind, by the counts among the bytes, and the datagram that bytes encode.
use Rattle.std.specs.Prelude.{ℕ, zero, suc, ◌+◌, ◌-◌, ◌*◌, ◌&&◌, ◌==◌, if◌then◌else◌, List, [], ◌∷◌, take, drop, slice_index, slice_range, map, filter, sum, Option, bytes_eq}
use Rattle.std.specs.Bool.{then_some}
use Rattle.std.specs.Option.{option_and_then}
use Rattle.std.specs.Simd.{first_chunks}
use Rattle.std.specs.Int.{w16, w32, w64, from_be_bytes}
use Rattle.bar_bytes.specs.Bytes.{first_u16}
use Rattle.bar_window.specs.Limits.{block_size, junk_size}
use Rattle.bar_window.specs.declared.update.UpdateId.{UpdateId}
use Rattle.bar_window.specs.declared.exchange.XKind.{XKind}
use Rattle.bar_window.specs.declared.exchange.XKind.TheVariants.{Balanced, Push}
use Rattle.bar_window.specs.declared.exchange.Role.{Role}
use Rattle.bar_window.specs.declared.exchange.Role.TheVariants.{Initiator, Responder}
use Rattle.bar_window.specs.Places.{is_set}
use Rattle.bar_window.specs.Updates.{first_round, window_of}
use Rattle.bar_window.specs.Terms.{Terms}
use Rattle.bar_window.specs.Terms as forms
use Rattle.bar_wire.specs.Limits.{header_len}
use Rattle.bar_wire.specs.declared.shape.Shape.{Shape}
use Rattle.bar_wire.specs.declared.kind.Kind.{Kind}
use Rattle.bar_wire.specs.declared.kind.Kind.TheVariants as kinds
use Rattle.bar_wire.specs.Kinds.{kind_at}
use Rattle.bar_wire.specs.Datagram.{Datagram, Body, Manifest, Block, Request, Response, Divulge, Query, Reply, Case, KeyReq, Key, Evidence, Evict}
use Rattle.bar_wire.specs.Grammar.{words_of, spelling}
use Rattle.bar_wire.specs.Ranges.{is_datagram}

-- ---- widths

-- the length of a number of datagrams, each after its own length
abbrev pub entries_len : ℕ → List ℕ → ℕ
entries_len zero bytes = 0
entries_len (suc n) bytes = 2 + first_u16 bytes + entries_len n (drop (2 + first_u16 bytes) bytes)

abbrev pub window_len : Shape → ℕ
window_len s = 8 * (words_of s * s.life)

-- the length of terms, by the code of the kind of exchange: those of a push for each code but 0
abbrev pub terms_len : Shape → ℕ → ℕ
terms_len s zero = 32 + 2 * window_len s
terms_len s (suc code) = 4 * window_len s + 1

-- how many bytes each field of a kind has, by the counts among the bytes after the header
abbrev pub widths : Shape → Kind → List ℕ → List ℕ
widths s kinds.Manifest b = 4 ∷ 1 ∷ 32 * slice_index b 4 ∷ []
widths s kinds.Block b = 4 ∷ 1 ∷ block_size ∷ []
widths s kinds.Request b = 4 ∷ 32 ∷ 32 ∷ []
widths s kinds.Response b = 4 ∷ window_len s ∷ []
widths s kinds.Divulge b = 4 ∷ 32 ∷ window_len s ∷ []
widths s kinds.Query b = 4 ∷ 32 ∷ window_len s ∷ window_len s ∷ []
widths s kinds.Reply b = 4 ∷ window_len s ∷ window_len s ∷ 1 ∷ []
widths s kinds.Case b = 4 ∷ 1 ∷ 1 ∷ 1 ∷ 1 ∷ terms_len s (slice_index b 4) ∷ (block_size * slice_index b 6 + junk_size * slice_index b 7) ∷ []
widths s kinds.KeyReq b = 4 ∷ 1 ∷ 1 ∷ []
widths s kinds.Key b = 4 ∷ 1 ∷ 1 ∷ 32 ∷ []
widths s kinds.Evidence b = 1 ∷ entries_len (slice_index b 0) (drop 1 b) ∷ []
widths s kinds.Evict b = 4 ∷ 1 ∷ 2 * slice_index b 4 ∷ []

-- how many bytes the fields of a kind have
abbrev pub fields_len : Shape → Kind → List ℕ → ℕ
fields_len s kind b = sum (widths s kind b)

-- ---- reading

-- the bytes, cut into parts of these widths
abbrev pub cut : List ℕ → List ℕ → List (List ℕ)
cut [] bytes = []
cut (n ∷ ns) bytes = take n bytes ∷ cut ns (drop n bytes)

-- the datagrams of a list of lengths, each followed by that many bytes
abbrev pub entries : ℕ → List ℕ → List (List ℕ)
entries zero bytes = []
entries (suc n) bytes = take (first_u16 bytes) (drop 2 bytes) ∷ entries n (drop (2 + first_u16 bytes) bytes)

-- the numbers of two bytes each
abbrev pub pairs : List ℕ → List ℕ
pairs [] = []
pairs (high ∷ []) = []
pairs (high ∷ low ∷ rest) = first_u16 (high ∷ low ∷ rest) ∷ pairs rest

abbrev pub kind_from : ℕ → XKind
kind_from code = if code == 0 then Balanced else Push

abbrev pub role_from : ℕ → Role
role_from code = if code == 0 then Initiator else Responder

-- the updates of the window of a round whose flags are set in its bytes
abbrev pub set_at : Shape → ℕ → List ℕ → List UpdateId
set_at s round bytes =
    let numbers = map (from_be_bytes w64) (first_chunks 8 (words_of s * s.life) bytes) in
    filter (λ u. is_set numbers (64 * words_of s * (u.round - first_round s.life round) + u.index)) (window_of (words_of s) s.life round)

-- part number i
abbrev pub part : List (List ℕ) → ℕ → List ℕ
part [] i = []
part (p ∷ ps) zero = p
part (p ∷ ps) (suc i) = part ps i

abbrev pub number : List ℕ → ℕ
number bytes = slice_index bytes 0

abbrev pub terms_at : Shape → ℕ → XKind → List ℕ → Terms
terms_at s r Balanced bytes =
    let ps = cut (32 ∷ window_len s ∷ window_len s ∷ []) bytes in
    forms.Balanced (part ps 0) (set_at s r (part ps 1)) (set_at s r (part ps 2))
terms_at s r Push bytes =
    let ps = cut (window_len s ∷ window_len s ∷ window_len s ∷ window_len s ∷ 1 ∷ []) bytes in
    forms.Push (set_at s r (part ps 0)) (set_at s r (part ps 1)) (set_at s r (part ps 2)) (set_at s r (part ps 3)) (number (part ps 4))

-- the fields of a kind in their parts, after the round
abbrev pub round_body : Shape → Kind → ℕ → List (List ℕ) → Body
round_body s kinds.Manifest r ps = Manifest r (first_chunks 32 (number (part ps 1)) (part ps 2))
round_body s kinds.Block r ps = Block (record { round = r; index = number (part ps 1) }) (part ps 2)
round_body s kinds.Request r ps = Request r (part ps 1) (part ps 2)
round_body s kinds.Response r ps = Response r (set_at s r (part ps 1))
round_body s kinds.Divulge r ps = Divulge r (part ps 1) (set_at s r (part ps 2))
round_body s kinds.Query r ps = Query r (part ps 1) (set_at s r (part ps 2)) (set_at s r (part ps 3))
round_body s kinds.Reply r ps = Reply r (set_at s r (part ps 1)) (set_at s r (part ps 2)) (number (part ps 3))
round_body s kinds.Case r ps =
    let kind = kind_from (number (part ps 1)) in
    Case (record {
      round = r;
      kind = kind;
      role = role_from (number (part ps 2));
      updates = number (part ps 3);
      junk = number (part ps 4);
      terms = terms_at s r kind (part ps 5);
      cipher = part ps 6;
    })
round_body s kinds.KeyReq r ps = KeyReq r (kind_from (number (part ps 1))) (role_from (number (part ps 2)))
round_body s kinds.Key r ps =
    Key (record { round = r; kind = kind_from (number (part ps 1)); role = role_from (number (part ps 2)); key = part ps 3 })
round_body s kinds.Evidence r ps = Evidence (entries (number (part ps 0)) (part ps 1))
round_body s kinds.Evict r ps = Evict r (pairs (part ps 2))

-- the body at the places of a kind's fields, whatever the bytes are
abbrev pub body_at : Shape → Kind → List ℕ → Body
body_at s kind bytes =
    let ps = cut (widths s kind bytes) bytes in
    round_body s kind (from_be_bytes w32 (part ps 0)) ps

-- the datagram at the places of this kind
abbrev pub datagram_at : Shape → Kind → List ℕ → Datagram
datagram_at s kind bytes = record {
  message = record {
    from = from_be_bytes w16 (slice_range bytes 12 14);
    to = from_be_bytes w16 (slice_range bytes 14 header_len);
    body = body_at s kind (drop header_len bytes);
  };
  signature = drop (header_len + fields_len s kind (drop header_len bytes)) bytes;
}

-- The datagram that the bytes encode: the one at the places of its kind, if it has an encoding and these bytes are its encoding.
unfoldable pub datagram_of : Shape → List ℕ → Option Datagram
datagram_of s bytes =
    option_and_then (λ kind. let d = datagram_at s kind bytes in then_some (is_datagram s d && bytes_eq (spelling s d) bytes) d)
    (kind_at (slice_index bytes 3))
