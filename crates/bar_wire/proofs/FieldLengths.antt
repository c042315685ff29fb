-- The lengths that counts give, from the fields.
use Rattle.std.proofs.Common.{◌≡◌, ℕ, suc, ◌+◌, ◌*◌, ◌<◌, ◌^◌, List, [], ◌∷◌, ◌++◌, length, drop, map, refl, sym, ap, ◌∙◌, append_assoc, length-append, arith, inl, inr}
use Rattle.std.specs.Prelude.{slice_index, sum}
use Rattle.std.specs.List.{concat, flat_map, AllByRecursion}
use Rattle.std.proofs.lemmas.Bool.{cases_lt}
use Rattle.std.proofs.lemmas.List.Sums.{sum_by-cons}
use Rattle.std.proofs.lemmas.List.{get_or_append_left, get_or-append-add, append-nil, nil_from_length, drop_at}
use Rattle.bar_bytes.specs.Bytes.{u16_bytes, u32_bytes}
use Rattle.bar_bytes.proofs.Lengths.{length_u16, length_u32}
use Rattle.bar_window.specs.declared.exchange.XKind.{XKind}
use Rattle.bar_window.specs.Exchange.{kind_code, role_code}
use Rattle.bar_window.specs.Terms.{Terms}
use Rattle.bar_window.specs.Terms as forms
use Rattle.bar_wire.specs.declared.shape.Shape.{Shape}
use Rattle.bar_wire.specs.declared.kind.Kind.{Kind}
use Rattle.bar_wire.specs.declared.kind.Kind.TheVariants as kinds
use Rattle.bar_wire.specs.Datagram.{Body, Manifest, Block, Request, Response, Divulge, Query, Reply, Case, KeyReq, Key, Evidence, Evict, kind_of}
use Rattle.bar_wire.specs.Grammar.{set_bytes, pieces, term_pieces, entry, HasForm, HasTermForm, signature_len}
use Rattle.bar_wire.specs.Places.{widths, fields_len, entries_len, terms_len, window_len}
use Rattle.bar_wire.proofs.WindowLaws.{length_set}
use Rattle.bar_wire.proofs.Steps.{len_step}

-- a count among the fields is the same in the fields alone and in all bytes after the header
pub front_len : (s : Shape) (kind : Kind) (fields sig : List ℕ) → length sig ≡ signature_len s kind → (length fields ≡ fields_len s kind fields → length fields ≡ fields_len s kind (fields ++ sig)) × (length fields ≡ fields_len s kind (fields ++ sig) → length fields ≡ fields_len s kind fields)
front_len s kinds.Manifest fields sig len = elim (cases_lt 4 (length fields)) [
  | inl lt ↦ let e : slice_index (fields ++ sig) 4 ≡ slice_index fields 4 = get_or_append_left fields sig 0 4 lt in (λ h. omega (arith, e, h), λ h. omega (arith, e, h))
  | inr ge ↦ (λ h. absurd (omega (arith, ge, h)), λ h. absurd (omega (arith, ge, h)))
]
front_len s kinds.Evict fields sig len = elim (cases_lt 4 (length fields)) [
  | inl lt ↦ let e : slice_index (fields ++ sig) 4 ≡ slice_index fields 4 = get_or_append_left fields sig 0 4 lt in (λ h. omega (arith, e, h), λ h. omega (arith, e, h))
  | inr ge ↦ (λ h. absurd (omega (arith, ge, h)), λ h. absurd (omega (arith, ge, h)))
]
front_len s kinds.Case fields sig len = elim (cases_lt 7 (length fields)) [
  | inl lt ↦
      let e4 : terms_len s (slice_index (fields ++ sig) 4) ≡ terms_len s (slice_index fields 4) = ap (terms_len s) (get_or_append_left fields sig 0 4 (omega (arith, lt))) in
      let e6 : slice_index (fields ++ sig) 6 ≡ slice_index fields 6 = get_or_append_left fields sig 0 6 (omega (arith, lt)) in
      let e7 : slice_index (fields ++ sig) 7 ≡ slice_index fields 7 = get_or_append_left fields sig 0 7 lt in
      (λ h. omega (arith, e4, e6, e7, h), λ h. omega (arith, e4, e6, e7, h))
  | inr ge ↦ (λ h. absurd (omega (arith, ge, h)), λ h. absurd (omega (arith, ge, h)))
]
front_len s kinds.Evidence fields sig len =
    let none : fields ++ sig ≡ fields = ap (λ (x : List ℕ). fields ++ x) (nil_from_length sig len) ∙ append-nil fields in
    let same : fields_len s kinds.Evidence (fields ++ sig) ≡ fields_len s kinds.Evidence fields = ap (fields_len s kinds.Evidence) none in
    (λ h. h ∙ sym same, λ h. h ∙ same)
front_len s _ fields sig len = (λ h. h, λ h. h)

pub length_parties : (ps : List ℕ) → length (flat_map u16_bytes ps) ≡ 2 * length ps
length_parties [] = refl
length_parties (p ∷ ps) = omega (arith, length-append (u16_bytes p) (flat_map u16_bytes ps), length_u16 p, length_parties ps)

pub length_digests : (ds : List (List ℕ)) → AllByRecursion (λ d. length d ≡ 32) ds → length (concat ds) ≡ 32 * length ds
length_digests [] fit = refl
length_digests (d ∷ ds) fit = omega (arith, length-append d (concat ds), fit.0, length_digests ds fit.1)

pub entries_back : (ds : List (List ℕ)) (after : List ℕ) → AllByRecursion (λ d. length d < 2 ^ 16) ds → entries_len (length ds) (flat_map entry ds ++ after) ≡ length (flat_map entry ds)
entries_back [] after fit = refl
entries_back (d ∷ ds) after fit =
    let rest = flat_map entry ds ++ after in
    let is : (entry d ++ flat_map entry ds) ++ after ≡ u16_bytes (length d) ++ (d ++ rest) = append_assoc (entry d) (flat_map entry ds) after ∙ append_assoc (u16_bytes (length d)) d rest in
    let step = len_step (suc (length ds)) (length ds) (length d) ((entry d ++ flat_map entry ds) ++ after) (d ++ rest) refl is fit.0 in
    let skip : entries_len (length ds) (drop (length d) (d ++ rest)) ≡ length (flat_map entry ds) = ap (entries_len (length ds)) (drop_at d rest (length d) refl) ∙ entries_back ds after fit.1 in
    omega (arith, step, skip, length-append (entry d) (flat_map entry ds), length-append (u16_bytes (length d)) d, length_u16 (length d))

-- terms have the length of their kind
pub length_terms : (s : Shape) (r : ℕ) (k : XKind) (t : Terms) → HasTermForm s r k t → length (concat (term_pieces s r t)) ≡ terms_len s (kind_code k)
length_terms s r k (forms.Balanced nonce ha hb) form =
    let zero_is : terms_len s (kind_code k) ≡ 32 + 2 * window_len s = ap (λ (n : XKind). terms_len s (kind_code n)) form.0 in
    omega (arith, zero_is, form.1, length_set s r ha, length_set s r hb, length-append nonce (set_bytes s r ha ++ (set_bytes s r hb ++ [])), length-append (set_bytes s r ha) (set_bytes s r hb ++ []), length-append (set_bytes s r hb) [])
length_terms s r k (forms.Push a b u v z) form =
    let push_is : terms_len s (kind_code k) ≡ 4 * window_len s + 1 = ap (λ (n : XKind). terms_len s (kind_code n)) form.0 in
    omega (
      arith,
      push_is,
      length_set s r a,
      length_set s r b,
      length_set s r u,
      length_set s r v,
      length-append (set_bytes s r a) (set_bytes s r b ++ (set_bytes s r u ++ (set_bytes s r v ++ (z ∷ [])))),
      length-append (set_bytes s r b) (set_bytes s r u ++ (set_bytes s r v ++ (z ∷ []))),
      length-append (set_bytes s r u) (set_bytes s r v ++ (z ∷ [])),
      length-append (set_bytes s r v) (z ∷ []),
    )

-- the byte at a place after the round
pub after_round : (r : ℕ) (rest : List ℕ) (n : ℕ) → slice_index (u32_bytes r ++ rest) (4 + n) ≡ slice_index rest n
after_round r rest n = ap (λ m. slice_index (u32_bytes r ++ rest) (m + n)) (sym (length_u32 r)) ∙ get_or-append-add (u32_bytes r) rest n 0

-- the parts of the fields have the widths that their counts give
pub widths_are : (s : Shape) (b : Body) (x : List ℕ) → HasForm s b → widths s (kind_of b) (concat (pieces s b) ++ x) ≡ map length (pieces s b)
widths_are s (Manifest r ds) x form =
    let count : slice_index (concat (pieces s (Manifest r ds)) ++ x) 4 ≡ length ds = ap (λ (b : List ℕ). slice_index b 4) (append_assoc (u32_bytes r) (length ds ∷ (concat ds ++ [])) x) ∙ after_round r (length ds ∷ ((concat ds ++ []) ++ x)) 0 in
    let long : 32 * slice_index (concat (pieces s (Manifest r ds)) ++ x) 4 ≡ length (concat ds) = omega (arith, count, length_digests ds form.1) in
    λ i. sym (length_u32 r) i ∷ 1 ∷ long i ∷ []
widths_are s (Block u block) x form = λ i. sym (length_u32 u.round) i ∷ 1 ∷ sym form.1 i ∷ []
widths_are s (Request r seed commitment) x form = λ i. sym (length_u32 r) i ∷ sym form.1 i ∷ sym form.2 i ∷ []
widths_are s (Response r hb) x form = λ i. sym (length_u32 r) i ∷ sym (length_set s r hb) i ∷ []
widths_are s (Divulge r nonce ha) x form = λ i. sym (length_u32 r) i ∷ sym form.1 i ∷ sym (length_set s r ha) i ∷ []
widths_are s (Query r seed young aged) x form = λ i. sym (length_u32 r) i ∷ sym form.1 i ∷ sym (length_set s r young) i ∷ sym (length_set s r aged) i ∷ []
widths_are s (Reply r want give junk) x form = λ i. sym (length_u32 r) i ∷ sym (length_set s r want) i ∷ sym (length_set s r give) i ∷ 1 ∷ []
widths_are s (Case c) x form =
    let counts = kind_code c.kind ∷ role_code c.role ∷ c.updates ∷ c.junk ∷ (concat (term_pieces s c.round c.terms) ++ (c.cipher ++ [])) in
    let at : (n : ℕ) → slice_index (concat (pieces s (Case c)) ++ x) (4 + n) ≡ slice_index (counts ++ x) n = λ n. ap (λ (b : List ℕ). slice_index b (4 + n)) (append_assoc (u32_bytes c.round) counts x) ∙ after_round c.round (counts ++ x) n in
    let terms : terms_len s (slice_index (concat (pieces s (Case c)) ++ x) 4) ≡ length (concat (term_pieces s c.round c.terms)) = ap (terms_len s) (at 0) ∙ sym (length_terms s c.round c.kind c.terms form.1) in
    let items : 1024 * slice_index (concat (pieces s (Case c)) ++ x) 6 + 1280 * slice_index (concat (pieces s (Case c)) ++ x) 7 ≡ length c.cipher = omega (arith, at 2, at 3, form.2) in
    λ i. sym (length_u32 c.round) i ∷ 1 ∷ 1 ∷ 1 ∷ 1 ∷ terms i ∷ items i ∷ []
widths_are s (KeyReq r kind role) x form = λ i. sym (length_u32 r) i ∷ 1 ∷ 1 ∷ []
widths_are s (Key k) x form = λ i. sym (length_u32 k.round) i ∷ 1 ∷ 1 ∷ sym form.1 i ∷ []
widths_are s (Evidence ds) x form =
    let all : entries_len (length ds) ((flat_map entry ds ++ []) ++ x) ≡ length (flat_map entry ds) = ap (entries_len (length ds)) (append_assoc (flat_map entry ds) [] x) ∙ entries_back ds x form in
    λ i. 1 ∷ all i ∷ []
widths_are s (Evict r ps) x form =
    let count : slice_index (concat (pieces s (Evict r ps)) ++ x) 4 ≡ length ps = ap (λ (b : List ℕ). slice_index b 4) (append_assoc (u32_bytes r) (length ps ∷ (flat_map u16_bytes ps ++ [])) x) ∙ after_round r (length ps ∷ ((flat_map u16_bytes ps ++ []) ++ x)) 0 in
    let long : 2 * slice_index (concat (pieces s (Evict r ps)) ++ x) 4 ≡ length (flat_map u16_bytes ps) = omega (arith, count, length_parties ps) in
    λ i. sym (length_u32 r) i ∷ 1 ∷ long i ∷ []

pub length_concat : (ps : List (List ℕ)) → length (concat ps) ≡ sum (map length ps)
length_concat [] = refl
length_concat (p ∷ ps) = length-append p (concat ps) ∙ ap (λ n. length p + n) (length_concat ps) ∙ sym (sum_by-cons (λ x. x) (length p) (map length ps))

-- the fields have the length that their counts give
pub pieces_len : (s : Shape) (b : Body) → HasForm s b → length (concat (pieces s b)) ≡ fields_len s (kind_of b) (concat (pieces s b))
pieces_len s b form = length_concat (pieces s b) ∙ ap sum (sym (widths_are s b [] form)) ∙ ap (fields_len s (kind_of b)) (append-nil (concat (pieces s b)))
