-- How many bytes a MANIFEST of a session has.
use Rattle.std.proofs.Common.{◌≡◌, ℕ, ◌+◌, ◌*◌, ◌<◌, ◌≤◌, ◌^◌, List, length, Some, None, option_and_then, inl, inr, refl, ap, arith, length-append}
use Rattle.std.specs.List.{concat}
use Rattle.std.proofs.lemmas.Bool.{cases_Bool}
use Rattle.std.proofs.lemmas.Option.{option_and_then_some, none-some}
use Rattle.bar_bytes.proofs.Lengths.{length_u32}
use Rattle.bar_window.proofs.Widths.{most_places}
use Rattle.bar_session.proofs.Levels.{session_short}
use Rattle.bar_wire.specs.declared.shape.Shape.{Shape}
use Rattle.bar_wire.specs.Datagram.{Datagram, Body, Manifest, Block, Request, Response, Divulge, Query, Reply, Case, KeyReq, Key, Evidence, Evict, kind_of}
use Rattle.bar_wire.specs.Grammar.{HasForm, InRange, SpellsDatagram, is_wide, message_bytes, pieces}
use Rattle.bar_wire.specs.Grammar as grammar
use Rattle.bar_wire.proofs.FieldLengths.{length_digests}
use Rattle.bar_wire.proofs.Written.{message_len}
use Rattle.bar_session.specs.Sessions.{IsSession}
use Rattle.bar_rules.specs.Member.{Session}
use Rattle.bar_rules.specs.Values.{datagram_of, is_signed_by}
use Rattle.bar_judge.specs.TableFile.{RoundList, list_in, list_of_signed, if_after, list_after}

-- what is known of the lengths of a body with a list
record IsShort (s : Shape) (body : Body) : Type 0 where
  pub fields : length (concat (pieces s body)) ≤ 5 + 32 * s.per_round
  pub signature : grammar.signature_len s (kind_of body) ≡ s.sig_len

is_short : (s : Shape) (body : Body) (entry : RoundList) → HasForm s body → InRange s body → list_in body ≡ Some entry → IsShort s body
is_short s (Manifest round digests) entry form range is =
    let long = length_digests digests form.1 in
    record { fields = simp (length-append, length_u32) (omega (arith, long, range.1)); signature = refl }
is_short s (Block u b) entry form range is = absurd cc
is_short s (Request r seed c) entry form range is = absurd cc
is_short s (Response r hb) entry form range is = absurd cc
is_short s (Divulge r n ha) entry form range is = absurd cc
is_short s (Query r seed y o) entry form range is = absurd cc
is_short s (Reply r w g z) entry form range is = absurd cc
is_short s (Case c) entry form range is = absurd cc
is_short s (KeyReq r k role) entry form range is = absurd cc
is_short s (Key k) entry form range is = absurd cc
is_short s (Evidence ds) entry form range is = absurd cc
is_short s (Evict r ps) entry form range is = absurd cc

-- what is signed and has a list has the list of its body
pub list_signed : (s : Session) (d : Datagram) (entry : RoundList) → list_of_signed s d ≡ Some entry → list_in d.message.body ≡ Some entry
list_signed s d entry is = elim (cases_Bool (is_signed_by s d)) [
  | inl signed ↦ rw signed at is
  | inr unsigned ↦ let none : None ≡ Some entry = rw unsigned at is in absurd (none-some entry none)
]

spelled_short : (s : Session) (d : Datagram) (bytes : List ℕ) (entry : RoundList) → IsSession s → SpellsDatagram s.shape d bytes
    → list_in d.message.body ≡ Some entry → length bytes < 2 ^ 16
spelled_short s d bytes entry session spelled is =
    let short = is_short s.shape d.message.body entry spelled.fits.form spelled.fits.range is in
    let message = message_len s.shape d.message in
    let signature = session_short s session in
    let whole = length-append (message_bytes s.shape d.message) d.signature in
    omega (
      arith,
      ap length spelled.is,
      whole,
      message,
      short.fields,
      short.signature,
      signature,
      spelled.fits.signature_long,
      session.signatures,
      session.shape.per_round_high,
      most_places (is_wide s.shape),
    )

pub listed_short : (s : Session) (last : ℕ) (bytes : List ℕ) (entry : RoundList)
    → ((d : Datagram) → datagram_of s bytes ≡ Some d → SpellsDatagram s.shape d bytes) → IsSession s → list_after s last bytes ≡ Some entry
    → length bytes < 2 ^ 16
listed_short s last bytes entry told session listed =
    option_and_then_some (if_after last) (option_and_then (list_of_signed s) (datagram_of s bytes)) entry listed (λ any any_is after.
    option_and_then_some (list_of_signed s) (datagram_of s bytes) any any_is (λ d read signed.
    spelled_short s d bytes any session (told d read) (list_signed s d any signed)))
