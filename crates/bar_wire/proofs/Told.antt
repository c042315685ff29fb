-- The datagram that bytes encode.
use Rattle.std.proofs.Common.{◌≡◌, ℕ, ◌+◌, true, ◌&&◌, List, [], ◌∷◌, ◌++◌, length, take, drop, refl, sym, ap, subst, ◌∙◌, append_assoc, length-append, arith}
use Rattle.std.specs.Prelude.{slice_index, slice_range, bytes_eq, Option, Some, None, Result, Ok, Err, MatchResult}
use Rattle.std.specs.Bool.{then_some}
use Rattle.std.specs.Option.{option_and_then, option_map}
use Rattle.std.specs.Result.{result_ok}
use Rattle.std.specs.List.{concat}
use Rattle.std.specs.Int.{w16, from_be_bytes}
use Rattle.std.proofs.lemmas.Bool.{and_parts, and_from}
use Rattle.std.proofs.lemmas.List.{take_at, drop_at}
use lib.Pointwise.{bytes_decides}
use Rattle.bar_bytes.specs.Bytes.{u16_bytes}
use Rattle.bar_bytes.proofs.Lengths.{length_u16}
use Rattle.bar_bytes.proofs.Options.{then-is}
use Rattle.bar_wire.specs.declared.shape.Shape.{Shape}
use Rattle.bar_wire.specs.declared.kind.Kind.{Kind}
use Rattle.bar_wire.specs.declared.fault.WireFault.{WireFault}
use Rattle.bar_wire.specs.declared.view.View.{View}
use Rattle.bar_wire.specs.Kinds.{code_of, kind_at}
use Rattle.bar_wire.specs.Datagram.{Datagram, kind_of}
use Rattle.bar_wire.specs.Grammar.{pieces, start, spelling, SpellsDatagram}
use Rattle.bar_wire.specs.Ranges.{datagram_decided, is_datagram}
use Rattle.bar_wire.specs.Places.{fields_len, body_at, datagram_at, datagram_of}
use Rattle.bar_wire.specs.Faults.{IsFirstFault}
use Rattle.bar_wire.specs.Code.Views.{IsView, datagram}
use Rattle.bar_wire.proofs.ReadBack.{u16_back, body_back, len_back}
use Rattle.bar_wire.proofs.Head.{three_joined}
use Rattle.bar_wire.proofs.Whole.{cut_from, start_len, fault_spells_none}

-- ---- the datagram that the bytes encode is at its places

-- the parts of the header of the datagram that the bytes encode
record Parts (s : Shape) (d : Datagram) (bytes : List ℕ) : Type 0 where
  from_is : from_be_bytes w16 (slice_range bytes 12 14) ≡ d.message.from
  to_is : from_be_bytes w16 (slice_range bytes 14 16) ≡ d.message.to
  fields_are : drop 16 bytes ≡ concat (pieces s d.message.body) ++ d.signature

parts_of : (s : Shape) (d : Datagram) (bytes : List ℕ) → SpellsDatagram s d bytes → Parts s d bytes
parts_of s d bytes spelled =
    let cut = cut_from s bytes d spelled in
    let kind = kind_of d.message.body in
    let from = u16_bytes d.message.from in
    let to = u16_bytes d.message.to in
    let fields = concat (pieces s d.message.body) ++ d.signature in
    let front = 0xba ∷ 0x47 ∷ s.version ∷ code_of kind ∷ [] in
    let is : bytes ≡ front ++ (s.id ++ (from ++ (to ++ fields))) = cut.is ∙ ap (λ (x : List ℕ). front ++ x) (sym (three_joined s.id from to fields)) in
    let at12 : drop 12 bytes ≡ from ++ (to ++ fields) = ap (drop 12) is ∙ drop_at s.id (from ++ (to ++ fields)) 8 s.shaped.id_long in
    let ten : length (s.id ++ from) ≡ 10 = omega (arith, length-append s.id from, s.shaped.id_long, length_u16 d.message.from) in
    let at14 : drop 14 bytes ≡ to ++ fields = ap (drop 14) is ∙ ap (drop 10) (sym (append_assoc s.id from (to ++ fields))) ∙ drop_at (s.id ++ from) (to ++ fields) 10 ten in
    record {
      from_is = ap (λ (x : List ℕ). from_be_bytes w16 (take 2 x)) at12 ∙ ap (from_be_bytes w16) (take_at from (to ++ fields) 2 (length_u16 d.message.from)) ∙ u16_back d.message.from spelled.fits.from_fits;
      to_is = ap (λ (x : List ℕ). from_be_bytes w16 (take 2 x)) at14 ∙ ap (from_be_bytes w16) (take_at to fields 2 (length_u16 d.message.to)) ∙ u16_back d.message.to spelled.fits.to_fits;
      fields_are = ap (drop 16) cut.is ∙ drop_at (concat (start s kind d.message.from d.message.to [])) fields 16 (start_len s kind d.message.from d.message.to);
    }

stands : (s : Shape) (d : Datagram) (bytes : List ℕ) → SpellsDatagram s d bytes → datagram_at s (kind_of d.message.body) bytes ≡ d
stands s d bytes spelled =
    let parts = parts_of s d bytes spelled in
    let cut = cut_from s bytes d spelled in
    let kind = kind_of d.message.body in
    let fields = concat (pieces s d.message.body) in
    let head = concat (start s kind d.message.from d.message.to []) in
    let body_is : body_at s kind (drop 16 bytes) ≡ d.message.body = ap (body_at s kind) parts.fields_are ∙ body_back s d.message.body d.signature spelled.fits.form in
    let long : fields_len s kind (drop 16 bytes) ≡ length fields = ap (fields_len s kind) parts.fields_are ∙ len_back s d.message.body d.signature spelled.fits.form in
    let n = 16 + fields_len s kind (drop 16 bytes) in
    let all : length (head ++ fields) ≡ n = omega (arith, length-append head fields, start_len s kind d.message.from d.message.to, long) in
    let rest : drop n bytes ≡ d.signature = ap (drop n) (cut.is ∙ sym (append_assoc head fields d.signature)) ∙ drop_at (head ++ fields) d.signature n all in
    λ i. record { message = record { from = parts.from_is i; to = parts.to_is i; body = body_is i }; signature = rest i }

-- ---- the datagram of some bytes

passes : (s : Shape) (bytes : List ℕ) (e d : Datagram) → then_some (is_datagram s e && bytes_eq (spelling s e) bytes) e ≡ Some d → SpellsDatagram s d bytes
passes s bytes e d h =
    let t = then-is (is_datagram s e && bytes_eq (spelling s e) bytes) e d h in
    let both = and_parts (is_datagram s e) (bytes_eq (spelling s e) bytes) t.0 in
    subst (λ (x : Datagram). SpellsDatagram s x bytes) t.1 (record { fits = (datagram_decided s e).tells.0 both.0; is = sym ((bytes_decides (spelling s e) bytes).0 both.1) })

at_kind : (s : Shape) (bytes : List ℕ) (o : Option Kind) (d : Datagram)
    → option_and_then (λ kind. then_some (is_datagram s (datagram_at s kind bytes) && bytes_eq (spelling s (datagram_at s kind bytes)) bytes) (datagram_at s kind bytes)) o ≡ Some d → SpellsDatagram s d bytes
at_kind s bytes None d h = absurd cc
at_kind s bytes (Some kind) d h = passes s bytes (datagram_at s kind bytes) d h

pub only_told : (s : Shape) (d : Datagram) (bytes : List ℕ) → datagram_of s bytes ≡ Some d → SpellsDatagram s d bytes
unfolding datagram_of
only_told s d bytes h = at_kind s bytes (kind_at (slice_index bytes 3)) d h

pub is_told : (s : Shape) (d : Datagram) (bytes : List ℕ) → SpellsDatagram s d bytes → datagram_of s bytes ≡ Some d
unfolding datagram_of
is_told s d bytes spelled =
    let kind = kind_of d.message.body in
    let cut = cut_from s bytes d spelled in
    let test : Datagram → Option Datagram = λ e. then_some (is_datagram s e && bytes_eq (spelling s e) bytes) e in
    let holds : is_datagram s d && bytes_eq (spelling s d) bytes ≡ true = and_from (is_datagram s d) (bytes_eq (spelling s d) bytes) ((datagram_decided s d).tells.1 spelled.fits) ((bytes_decides (spelling s d) bytes).1 (sym spelled.is)) in
    ap (option_and_then (λ (k : Kind). test (datagram_at s k bytes))) cut.has.kind_is ∙ ap test (stands s d bytes spelled) ∙ ap (λ b. then_some b d) holds

none_from : {X : Type 0} (o : Option X) → ((x : X) → o ≡ Some x → ⊥) → o ≡ None
none_from None never = refl
none_from (Some x) never = absurd (never x refl)

-- the result of a reader is the datagram of the bytes
pub read_told : (s : Shape) (bytes : List ℕ) (r : Result View WireFault) → MatchResult r (IsView s bytes) (IsFirstFault s bytes) → option_map (datagram s) (result_ok r) ≡ datagram_of s bytes
read_told s bytes (Ok v) read = sym (is_told s (datagram s v) bytes read.spelled)
read_told s bytes (Err e) read = sym (none_from (datagram_of s bytes) (λ d h. fault_spells_none s bytes e d read (only_told s d bytes h)))
