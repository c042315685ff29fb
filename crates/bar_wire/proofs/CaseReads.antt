-- A case, from the parts that were read.
use Rattle.std.proofs.Common.{◌≡◌, ℕ, ◌+◌, ◌≤◌, ◌<◌, ◌^◌, List, ◌∷◌, ◌++◌, length, refl, sym, ap, ◌∙◌, length-append, arith}
use Rattle.std.specs.Prelude.{slice_index}
use Rattle.std.specs.List.{concat}
use Rattle.std.proofs.lemmas.List.{append-nil}
use Rattle.bar_bytes.specs.Bytes.{u32_bytes}
use Rattle.bar_bytes.proofs.Lengths.{length_u32}
use Rattle.bar_window.specs.declared.exchange.Role.{Role}
use Rattle.bar_window.specs.declared.exchange.XKind.{XKind}
use Rattle.bar_window.specs.declared.terms.Terms.{Terms as RawTerms}
use Rattle.bar_window.specs.Exchange.{kind_code, role_code}
use Rattle.bar_window.specs.Terms.{plain_terms}
use Rattle.bar_wire.specs.declared.shape.Shape.{Shape}
use Rattle.bar_wire.specs.declared.kind.Kind.TheVariants as kinds
use Rattle.bar_wire.specs.Datagram.{Case}
use Rattle.bar_wire.specs.Grammar.{term_pieces}
use Rattle.bar_wire.specs.Places.{terms_len, fields_len}
use Rattle.bar_wire.specs.Code.Reading.{HasBytes}
use Rattle.bar_wire.specs.Code.Terms.{AreTermsAt}
use Rattle.bar_wire.proofs.FieldLengths.{after_round}

-- the first five fields, and what follows them
pub record CaseStart (r : ℕ) (kind : XKind) (role : Role) (u z : ℕ) (bytes rest : List ℕ) : Type 0 where
  pub fits : r < 2 ^ 32
  pub is : bytes ≡ u32_bytes r ++ (kind_code kind ∷ role_code role ∷ u ∷ z ∷ rest)

pub case_start : (r : ℕ) (kind : XKind) (role : Role) (u z : ℕ) (bytes r1 r2 r3 rest : List ℕ) → r < 2 ^ 32
    → bytes ≡ u32_bytes r ++ r1 → r1 ≡ kind_code kind ∷ role_code role ∷ r2 → r2 ≡ u ∷ r3 → r3 ≡ z ∷ rest → CaseStart r kind role u z bytes rest
case_start r kind role u z bytes r1 r2 r3 rest fits e0 e1 e2 e3 = record {
  fits = fits;
  is = e0 ∙ ap (λ (x : List ℕ). u32_bytes r ++ x) (e1 ∙ λ i. kind_code kind ∷ role_code role ∷ (e2 ∙ λ j. u ∷ e3 j) i);
}

-- the lengths that the counts give
pub record CaseLengths (s : Shape) (kind : XKind) (u z : ℕ) (bytes rest : List ℕ) : Type 0 where
  pub terms : terms_len s (slice_index bytes 4) ≡ terms_len s (kind_code kind)
  pub updates : slice_index bytes 6 ≡ u
  pub junk : slice_index bytes 7 ≡ z
  pub total : length bytes ≡ 8 + length rest

pub case_lengths : (s : Shape) (r : ℕ) (kind : XKind) (role : Role) (u z : ℕ) (bytes rest : List ℕ) → CaseStart r kind role u z bytes rest → CaseLengths s kind u z bytes rest
case_lengths s r kind role u z bytes rest start =
    let counts = kind_code kind ∷ role_code role ∷ u ∷ z ∷ rest in
    let at : (n : ℕ) → slice_index bytes (4 + n) ≡ slice_index counts n = λ n. ap (λ (x : List ℕ). slice_index x (4 + n)) start.is ∙ after_round r counts n in
    record {
      terms = ap (terms_len s) (at 0);
      updates = at 2;
      junk = at 3;
      total = omega (arith, ap length start.is, length-append (u32_bytes r) counts, length_u32 r);
    }

pub case_room : (s : Shape) (r : ℕ) (kind : XKind) (role : Role) (u z : ℕ) (bytes rest : List ℕ) → CaseStart r kind role u z bytes rest → length bytes ≡ fields_len s kinds.Case bytes
    → terms_len s (kind_code kind) ≤ length rest
case_room s r kind role u z bytes rest start len =
    let lens = case_lengths s r kind role u z bytes rest start in
    omega (arith, len, lens.terms, lens.total)

pub case_has : (s : Shape) (r : ℕ) (kind : XKind) (role : Role) (u z : ℕ) (bytes rest cipher : List ℕ) (t : RawTerms) → CaseStart r kind role u z bytes rest → length bytes ≡ fields_len s kinds.Case bytes → AreTermsAt s kind r rest t cipher
    → HasBytes s kinds.Case (Case (record { round = r; kind = kind; role = role; updates = u; junk = z; terms = plain_terms t; cipher = cipher })) bytes
case_has s r kind role u z bytes rest cipher t start len at =
    let lens = case_lengths s r kind role u z bytes rest start in
    let text = concat (term_pieces s r (plain_terms t)) in
    record {
      kind_is = refl;
      form = (start.fits, at.form, omega (arith, len, lens.terms, lens.updates, lens.junk, lens.total, at.len));
      is = start.is ∙ λ i. u32_bytes r ++ (kind_code kind ∷ role_code role ∷ u ∷ z ∷ (at.is ∙ ap (λ (x : List ℕ). text ++ x) (sym (append-nil cipher))) i);
    }
