-- Whole datagrams: the header, the fields and the signature.
use Rattle.std.proofs.Common.{◌≡◌, ℕ, ◌+◌, ◌-◌, ◌<◌, ◌^◌, List, [], ◌∷◌, ◌++◌, length, take, drop, refl, sym, ap, subst, ◌∙◌, append_assoc, length-append, arith}
use Rattle.std.specs.Prelude.{slice_index, Some, None, Result, Ok, Err, MatchResult, IsOkAnd}
use Rattle.std.specs.List.{concat}
use Rattle.std.proofs.lemmas.List.{take_at, drop_at, length-drop, take-append-drop}
use Rattle.bar_wire.specs.declared.shape.Shape.{Shape}
use Rattle.bar_wire.specs.declared.kind.Kind.{Kind}
use Rattle.bar_wire.specs.declared.fault.WireFault.{WireFault}
use Rattle.bar_wire.specs.declared.fault.WireFault.TheVariants.{Short, BadMagic, BadVersion, BadKind, BadSession, BadLength, BadField}
use Rattle.bar_bytes.specs.Bytes.{u8_bytes, u16_bytes}
use Rattle.bar_bytes.proofs.Lengths.{length_u16}
use Rattle.bar_wire.specs.Kinds.{code_of, kind_at}
use Rattle.bar_wire.specs.Datagram.{Datagram, Body, kind_of}
use Rattle.bar_wire.specs.Grammar.{pieces, magic, start, message_bytes, spelling, signature_len, IsDatagram, SpellsDatagram, MaySend}
use Rattle.bar_wire.specs.Places.{fields_len}
use Rattle.bar_wire.specs.Faults.{HasHeader, datagram_len, IsFirstFault}
use Rattle.bar_wire.specs.Code.Reading.{SpellsBody, SpellsNone}
use Rattle.bar_wire.specs.Code.Headers.{IsCut}
use Rattle.bar_wire.specs.Code.Views.{IsView, datagram}
use Rattle.bar_wire.specs.declared.view.View.{View}
use Rattle.bar_wire.proofs.Peel.{peel, peel_piece, peel_u8, peel_u16}
use Rattle.bar_wire.proofs.One.{one_reading}
use Rattle.bar_wire.proofs.FieldLengths.{front_len, pieces_len}
use Rattle.bar_wire.proofs.Head.{kind_again, three_joined}

-- the pieces after the magic, the version and the code
abbrev start3 : Shape → ℕ → ℕ → List (List ℕ) → List (List ℕ)
start3 s from to ps = s.id ∷ u16_bytes from ∷ u16_bytes to ∷ ps

abbrev start2 : Shape → Kind → ℕ → ℕ → List (List ℕ) → List (List ℕ)
start2 s kind from to ps = u8_bytes (code_of kind) ∷ start3 s from to ps

abbrev start1 : Shape → Kind → ℕ → ℕ → List (List ℕ) → List (List ℕ)
start1 s kind from to ps = u8_bytes s.version ∷ start2 s kind from to ps

some_inj : (k l : Kind) → Some k ≡ Some l → k ≡ l
some_inj k l e = cc

same_kind : (k l : Kind) → code_of k ≡ code_of l → k ≡ l
same_kind k l e = some_inj k l (sym (kind_again k) ∙ ap kind_at e ∙ kind_again l)

pub record SameStart (k l : Kind) (from from' to to' : ℕ) (x y : List ℕ) : Type 0 where
  pub kind : k ≡ l
  pub from_is : from ≡ from'
  pub to_is : to ≡ to'
  pub rest : x ≡ y

pub peel_start : (s : Shape) (k l : Kind) (from from' to to' : ℕ) (ps qs : List (List ℕ)) (x y : List ℕ) → from < 2 ^ 16 → from' < 2 ^ 16 → to < 2 ^ 16 → to' < 2 ^ 16
    → concat (start s k from to ps) ++ x ≡ concat (start s l from' to' qs) ++ y → SameStart k l from from' to to' (concat ps ++ x) (concat qs ++ y)
peel_start s k l from from' to to' ps qs x y f f' t t' e =
    let a = peel_piece magic magic (start1 s k from to ps) (start1 s l from' to' qs) x y refl e in
    let b = peel_u8 s.version s.version (start2 s k from to ps) (start2 s l from' to' qs) x y a.rest in
    let c = peel_u8 (code_of k) (code_of l) (start3 s from to ps) (start3 s from' to' qs) x y b.1 in
    let d = peel_piece s.id s.id (u16_bytes from ∷ u16_bytes to ∷ ps) (u16_bytes from' ∷ u16_bytes to' ∷ qs) x y refl c.1 in
    let g = peel_u16 from from' (u16_bytes to ∷ ps) (u16_bytes to' ∷ qs) x y f f' d.rest in
    let h = peel_u16 to to' ps qs x y t t' g.1 in
    record { kind = same_kind k l c.0; from_is = g.0; to_is = h.0; rest = h.1 }

-- ---- the encoding is unique and prefix-free

pub one_datagram : (s : Shape) (d e : Datagram) (x y : List ℕ) → IsDatagram s d → IsDatagram s e → spelling s d ++ x ≡ spelling s e ++ y → (d ≡ e) × (x ≡ y)
one_datagram s d e x y p q h =
    let regrouped : message_bytes s d.message ++ (d.signature ++ x) ≡ message_bytes s e.message ++ (e.signature ++ y) = sym (append_assoc (message_bytes s d.message) d.signature x) ∙ h ∙ append_assoc (message_bytes s e.message) e.signature y in
    let a = peel_start s (kind_of d.message.body) (kind_of e.message.body) d.message.from e.message.from d.message.to e.message.to (pieces s d.message.body) (pieces s e.message.body) (d.signature ++ x) (e.signature ++ y) p.from_fits q.from_fits p.to_fits q.to_fits regrouped in
    let b = one_reading s d.message.body e.message.body (d.signature ++ x) (e.signature ++ y) a.kind p.form q.form a.rest in
    let c = peel d.signature e.signature x y (p.signature_long ∙ ap (signature_len s) a.kind ∙ sym q.signature_long) b.rest in
    (λ i. record { message = record { from = a.from_is i; to = a.to_is i; body = b.body i }; signature = c.front i }, c.rest)

-- ---- bytes that are cut into a header, fields and a signature

-- the parts of the datagram that the bytes encode, if they are cut so
pub record IsSpelledBy (s : Shape) (kind : Kind) (from to : ℕ) (fields : List ℕ) (d : Datagram) : Type 0 where
  pub kind_is : kind_of d.message.body ≡ kind
  pub from_is : d.message.from ≡ from
  pub to_is : d.message.to ≡ to
  pub fields_are : fields ≡ concat (pieces s d.message.body)

pub cut_spelled : (s : Shape) (bytes : List ℕ) (kind : Kind) (from to : ℕ) (fields sig : List ℕ) (d : Datagram) → IsCut s bytes kind from to fields sig → SpellsDatagram s d bytes → IsSpelledBy s kind from to fields d
cut_spelled s bytes kind from to fields sig d cut spelled =
    let p = spelled.fits in
    let a = peel_start s (kind_of d.message.body) kind d.message.from from d.message.to to (pieces s d.message.body) [] d.signature (fields ++ sig) p.from_fits cut.from_fits p.to_fits cut.to_fits (sym spelled.is ∙ cut.is) in
    let lens : length d.signature ≡ length sig = p.signature_long ∙ ap (signature_len s) a.kind ∙ sym cut.sig_long in
    let total = ap length a.rest in
    let b = peel (concat (pieces s d.message.body)) fields d.signature sig (omega (arith, lens, total, length-append (concat (pieces s d.message.body)) d.signature, length-append fields sig)) a.rest in
    record { kind_is = a.kind; from_is = a.from_is; to_is = a.to_is; fields_are = sym b.front }

-- If the fields encode none of the kind, or the parties may not send it, the bytes encode no datagram.
pub cut_none : (s : Shape) (bytes : List ℕ) (kind : Kind) (from to : ℕ) (fields sig : List ℕ) → IsCut s bytes kind from to fields sig → SpellsNone s kind fields → (d : Datagram) → SpellsDatagram s d bytes → ⊥
cut_none s bytes kind from to fields sig cut none d spelled =
    let a = cut_spelled s bytes kind from to fields sig d cut spelled in
    none d.message.body a.kind_is (record { form = spelled.fits.form; range = spelled.fits.range; is = a.fields_are })

pub cut_not_sent : (s : Shape) (bytes : List ℕ) (kind : Kind) (from to : ℕ) (fields sig : List ℕ) → IsCut s bytes kind from to fields sig → (MaySend s kind from to → ⊥) → (d : Datagram) → SpellsDatagram s d bytes → ⊥
cut_not_sent s bytes kind from to fields sig cut not d spelled =
    let a = cut_spelled s bytes kind from to fields sig d cut spelled in
    let k = subst (λ (n : Kind). MaySend s n d.message.from d.message.to) a.kind_is spelled.fits.may_send in
    let f = subst (λ (n : ℕ). MaySend s kind n d.message.to) a.from_is k in
    not (subst (λ (n : ℕ). MaySend s kind from n) a.to_is f)

-- ---- lengths

pub start_len : (s : Shape) (kind : Kind) (from to : ℕ) → length (concat (start s kind from to [])) ≡ 16
start_len s kind from to =
    omega (arith, s.shaped.id_long, length_u16 from, length_u16 to, length-append s.id (u16_bytes from ++ (u16_bytes to ++ [])), length-append (u16_bytes from) (u16_bytes to ++ []), length-append (u16_bytes to) [])

pub cut_len : (s : Shape) (bytes : List ℕ) (kind : Kind) (from to : ℕ) (fields sig : List ℕ) → IsCut s bytes kind from to fields sig
    → (length fields ≡ fields_len s kind fields → length bytes ≡ datagram_len s kind bytes) × (length bytes ≡ datagram_len s kind bytes → length fields ≡ fields_len s kind fields)
cut_len s bytes kind from to fields sig cut =
    let rest : drop 16 bytes ≡ fields ++ sig = ap (drop 16) cut.is ∙ drop_at (concat (start s kind from to [])) (fields ++ sig) 16 (start_len s kind from to) in
    let same : fields_len s kind (drop 16 bytes) ≡ fields_len s kind (fields ++ sig) = ap (fields_len s kind) rest in
    let total : length bytes ≡ 16 + (length fields + length sig) = ap length cut.is ∙ length-append (concat (start s kind from to [])) (fields ++ sig) ∙ omega (arith, start_len s kind from to, length-append fields sig) in
    let both = front_len s kind fields sig cut.sig_long in
    (λ h. omega (arith, total, cut.sig_long, same, both.0 h), λ h. both.1 (omega (arith, total, cut.sig_long, same, h)))

-- ---- the cut of the bytes after a header

-- too few bytes are left for a signature
pub too_short : (s : Shape) (bytes : List ℕ) (kind : Kind) (from to : ℕ) (rest : List ℕ) → bytes ≡ concat (start s kind from to []) ++ rest → length rest < signature_len s kind → length bytes ≡ datagram_len s kind bytes → ⊥
too_short s bytes kind from to rest is short h =
    let total : length bytes ≡ 16 + length rest = ap length is ∙ length-append (concat (start s kind from to [])) rest ∙ omega (arith, start_len s kind from to) in
    omega (arith, total, short, h)

-- the rest, cut at the signature
pub cut_of : (s : Shape) (bytes : List ℕ) (kind : Kind) (from to : ℕ) (rest : List ℕ) (n : ℕ) → HasHeader s kind bytes → from < 2 ^ 16 → to < 2 ^ 16 → bytes ≡ concat (start s kind from to []) ++ rest
    → n + signature_len s kind ≡ length rest → IsCut s bytes kind from to (take n rest) (drop n rest)
cut_of s bytes kind from to rest n has f t is len = record {
  has = has;
  from_fits = f;
  to_fits = t;
  sig_long = omega (arith, length-drop n rest, len);
  is = is ∙ ap (λ (x : List ℕ). concat (start s kind from to []) ++ x) (sym (take-append-drop n rest));
}

-- ---- the datagram that is read

pub start_then : (s : Shape) (kind : Kind) (from to : ℕ) (ps : List (List ℕ)) → concat (start s kind from to ps) ≡ concat (start s kind from to []) ++ concat ps
start_then s kind from to ps = ap (λ (x : List ℕ). 0xba ∷ 0x47 ∷ s.version ∷ code_of kind ∷ x) (three_joined s.id (u16_bytes from) (u16_bytes to) (concat ps))

pub cut_view : (s : Shape) (bytes : List ℕ) (kind : Kind) (from to : ℕ) (fields sig : List ℕ) (f : Body) → IsCut s bytes kind from to fields sig → kind_of f ≡ kind → SpellsBody s f fields → MaySend s kind from to
    → SpellsDatagram s (record { message = record { from = from; to = to; body = f }; signature = sig }) bytes × (take (length bytes - length sig) bytes ≡ message_bytes s (record { from = from; to = to; body = f }))
cut_view s bytes kind from to fields sig f cut kind_is spelled may =
    let d : Datagram = record { message = record { from = from; to = to; body = f }; signature = sig } in
    let joined : message_bytes s d.message ≡ concat (start s kind from to []) ++ fields = ap (λ (k : Kind). concat (start s k from to (pieces s f))) kind_is ∙ start_then s kind from to (pieces s f) ∙ ap (λ (x : List ℕ). concat (start s kind from to []) ++ x) (sym spelled.is) in
    let whole : bytes ≡ spelling s d = cut.is ∙ sym (append_assoc (concat (start s kind from to [])) fields sig) ∙ ap (λ (x : List ℕ). x ++ sig) (sym joined) in
    let n : length (message_bytes s d.message) ≡ length bytes - length sig = omega (arith, ap length whole, length-append (message_bytes s d.message) sig) in (
      record {
        fits = record {
          from_fits = cut.from_fits;
          to_fits = cut.to_fits;
          form = spelled.form;
          range = spelled.range;
          signature_long = cut.sig_long ∙ ap (signature_len s) (sym kind_is);
          may_send = subst (λ (k : Kind). MaySend s k from to) (sym kind_is) may;
        };
        is = whole;
      },
      ap (take (length bytes - length sig)) whole ∙ take_at (message_bytes s d.message) sig (length bytes - length sig) n,
    )

not_both : {k : Kind} → None ≡ Some k → ⊥
not_both e = cc

session_first : (s : Shape) (d : Datagram) → take 8 (drop 4 (spelling s d)) ≡ s.id
session_first s d =
    let after = u16_bytes d.message.from ++ (u16_bytes d.message.to ++ concat (pieces s d.message.body)) in
    ap (take 8) (append_assoc s.id after d.signature) ∙ take_at s.id (after ++ d.signature) 8 s.shaped.id_long

-- ---- the encoding of a datagram has no fault

pub cut_from : (s : Shape) (bytes : List ℕ) (d : Datagram) → SpellsDatagram s d bytes → IsCut s bytes (kind_of d.message.body) d.message.from d.message.to (concat (pieces s d.message.body)) d.signature
cut_from s bytes d spelled =
    let kind = kind_of d.message.body in
    let is : bytes ≡ concat (start s kind d.message.from d.message.to []) ++ (concat (pieces s d.message.body) ++ d.signature) = spelled.is ∙ ap (λ (x : List ℕ). x ++ d.signature) (start_then s kind d.message.from d.message.to (pieces s d.message.body)) ∙ append_assoc (concat (start s kind d.message.from d.message.to [])) (concat (pieces s d.message.body)) d.signature in
    record {
      has = record {
        ours = record {
          long = omega (arith, ap length is, length-append (concat (start s kind d.message.from d.message.to [])) (concat (pieces s d.message.body) ++ d.signature), start_len s kind d.message.from d.message.to);
          magic_is = ap (take 2) is;
          version_is = ap (λ (x : List ℕ). slice_index x 2) is;
        };
        kind_is = ap (λ (x : List ℕ). kind_at (slice_index x 3)) is ∙ kind_again kind;
        session_is = ap (λ (x : List ℕ). take 8 (drop 4 x)) spelled.is ∙ session_first s d;
      };
      from_fits = spelled.fits.from_fits;
      to_fits = spelled.fits.to_fits;
      sig_long = spelled.fits.signature_long;
      is = is;
    }

pub whole_from : (s : Shape) (bytes : List ℕ) (d : Datagram) → SpellsDatagram s d bytes → length bytes ≡ datagram_len s (kind_of d.message.body) bytes
whole_from s bytes d spelled = (cut_len s bytes (kind_of d.message.body) d.message.from d.message.to (concat (pieces s d.message.body)) d.signature (cut_from s bytes d spelled)).0 (pieces_len s d.message.body spelled.fits.form)

-- bytes with a fault encode no datagram
pub fault_spells_none : (s : Shape) (bytes : List ℕ) (e : WireFault) (d : Datagram) → IsFirstFault s bytes e → SpellsDatagram s d bytes → ⊥
fault_spells_none s bytes Short d fault spelled = let cut = cut_from s bytes d spelled in omega (arith, fault, cut.has.ours.long)
fault_spells_none s bytes BadMagic d fault spelled = fault.1 (cut_from s bytes d spelled).has.ours.magic_is
fault_spells_none s bytes BadVersion d fault spelled = fault.2 (cut_from s bytes d spelled).has.ours.version_is
fault_spells_none s bytes BadKind d fault spelled = absurd (not_both (sym fault.1 ∙ (cut_from s bytes d spelled).has.kind_is))
fault_spells_none s bytes BadSession d fault spelled = fault.2 (cut_from s bytes d spelled).has.session_is
fault_spells_none s bytes BadLength d fault spelled =
    let same : kind_of d.message.body ≡ fault.0 = some_inj (kind_of d.message.body) fault.0 (sym (cut_from s bytes d spelled).has.kind_is ∙ fault.1.kind_is) in
    fault.2 (whole_from s bytes d spelled ∙ ap (λ (k : Kind). datagram_len s k bytes) same)
fault_spells_none s bytes BadField d fault spelled = fault.1 d spelled

-- If the bytes encode a datagram, the reader's result is that datagram.
pub only_read : (s : Shape) (bytes : List ℕ) (r : Result View WireFault) (d : Datagram) → MatchResult r (IsView s bytes) (IsFirstFault s bytes) → SpellsDatagram s d bytes → IsOkAnd r (λ v. datagram s v ≡ d)
only_read s bytes (Ok v) d read spelled = (one_datagram s (datagram s v) d [] [] read.spelled.fits spelled.fits (ap (λ (x : List ℕ). x ++ []) (sym read.spelled.is ∙ spelled.is))).0
only_read s bytes (Err e) d read spelled = absurd (fault_spells_none s bytes e d read spelled)
