-- The fields of a body are read back from their parts.
use Rattle.std.proofs.Common.{◌≡◌, ℕ, suc, ◌<◌, ◌^◌, List, [], ◌∷◌, ◌++◌, length, take, drop, map, refl, sym, ap, ◌∙◌, append_assoc}
use Rattle.std.specs.Prelude.{sum}
use Rattle.std.specs.List.{concat, flat_map, AllByRecursion}
use Rattle.std.specs.Int.{w16, w32, from_be_bytes}
use Rattle.std.proofs.lemmas.Nat.{from_be_bytes-to_be_bytes_2, from_be_bytes-to_be_bytes_4}
use Rattle.std.proofs.lemmas.List.{take_at, drop_at, append-nil}
use Rattle.bar_bytes.specs.Bytes.{u16_bytes, u32_bytes}
use Rattle.bar_window.specs.declared.update.UpdateId.{UpdateId}
use Rattle.bar_window.specs.declared.exchange.XKind.{XKind}
use Rattle.bar_window.specs.Exchange.{kind_code}
use Rattle.bar_window.specs.Terms.{Terms}
use Rattle.bar_window.specs.Terms as forms
use Rattle.bar_wire.specs.declared.shape.Shape.{Shape}
use Rattle.bar_wire.specs.Datagram.{Body, Briefcase, Manifest, Block, Request, Response, Divulge, Query, Reply, Case, KeyReq, Key, Evidence, Evict, kind_of}
use Rattle.bar_wire.specs.Grammar.{set_bytes, pieces, term_pieces, entry, HasForm, HasTermForm, IsWindowSet}
use Rattle.std.specs.Simd.{first_chunks}
use Rattle.bar_wire.specs.Places.{widths, fields_len, window_len, cut, entries, pairs, kind_from, set_at, part, number, terms_at, round_body, body_at}
use Rattle.bar_wire.proofs.Codes.{kind_back, role_back}
use Rattle.bar_wire.proofs.Steps.{entries_step, pairs_step}
use Rattle.bar_wire.proofs.WindowLaws.{length_set}
use Rattle.bar_wire.proofs.FieldLengths.{widths_are, length_concat}
use Rattle.bar_wire.proofs.SetBack.{set_back}

pub u16_back : (n : ℕ) → n < 2 ^ 16 → from_be_bytes w16 (u16_bytes n) ≡ n
unfolding u16_bytes
u16_back n lt = from_be_bytes-to_be_bytes_2 n lt

u32_back : (n : ℕ) → n < 2 ^ 32 → from_be_bytes w32 (u32_bytes n) ≡ n
unfolding u32_bytes
u32_back n lt = from_be_bytes-to_be_bytes_4 n lt

-- cutting the concatenation of parts gives the parts
pub cut_back : (ps : List (List ℕ)) (x : List ℕ) → cut (map length ps) (concat ps ++ x) ≡ ps
cut_back [] x = refl
cut_back (p ∷ ps) x =
    let is : (p ++ concat ps) ++ x ≡ p ++ (concat ps ++ x) = append_assoc p (concat ps) x in
    let front : take (length p) ((p ++ concat ps) ++ x) ≡ p = ap (take (length p)) is ∙ take_at p (concat ps ++ x) (length p) refl in
    let back : drop (length p) ((p ++ concat ps) ++ x) ≡ concat ps ++ x = ap (drop (length p)) is ∙ drop_at p (concat ps ++ x) (length p) refl in
    λ i. front i ∷ (ap (cut (map length ps)) back ∙ cut_back ps x) i

chunks_back : (n : ℕ) (ds : List (List ℕ)) → AllByRecursion (λ d. length d ≡ n) ds → first_chunks n (length ds) (concat ds) ≡ ds
chunks_back n [] fit = refl
chunks_back n (d ∷ ds) fit = λ i. take_at d (concat ds) n fit.0 i ∷ (ap (first_chunks n (length ds)) (drop_at d (concat ds) n fit.0) ∙ chunks_back n ds fit.1) i

pub entries_back : (ds : List (List ℕ)) → AllByRecursion (λ d. length d < 2 ^ 16) ds → entries (length ds) (flat_map entry ds) ≡ ds
entries_back [] fit = refl
entries_back (d ∷ ds) fit =
    let rest = flat_map entry ds in
    let is : entry d ++ rest ≡ u16_bytes (length d) ++ (d ++ rest) = append_assoc (u16_bytes (length d)) d rest in
    let step = entries_step (suc (length ds)) (length ds) (length d) (entry d ++ rest) (d ++ rest) refl is fit.0 in
    step ∙ λ i. take_at d rest (length d) refl i ∷ (ap (entries (length ds)) (drop_at d rest (length d) refl) ∙ entries_back ds fit.1) i

pairs_back : (ps : List ℕ) → AllByRecursion (λ p. p < 2 ^ 16) ps → pairs (flat_map u16_bytes ps) ≡ ps
pairs_back [] fit = refl
pairs_back (p ∷ ps) fit = pairs_step p (u16_bytes p ++ flat_map u16_bytes ps) (flat_map u16_bytes ps) refl fit.0 ∙ ap (λ (x : List ℕ). p ∷ x) (pairs_back ps fit.1)

-- a set, if the round is read too
set_at_back : (s : Shape) (n r : ℕ) (us : List UpdateId) → n ≡ r → IsWindowSet s r us → set_at s n (set_bytes s r us) ≡ us
set_at_back s n r us same set = ap (λ m. set_at s m (set_bytes s r us)) same ∙ set_back s r us set

terms_back : (s : Shape) (n r : ℕ) (k k' : XKind) (t : Terms) → n ≡ r → k' ≡ k → HasTermForm s r k t → terms_at s n k' (concat (term_pieces s r t)) ≡ t
terms_back s n r k k' (forms.Balanced nonce ha hb) same is form =
    let ps = term_pieces s r (forms.Balanced nonce ha hb) in
    let w : 32 ∷ window_len s ∷ window_len s ∷ [] ≡ map length ps = λ i. sym form.1 i ∷ sym (length_set s r ha) i ∷ sym (length_set s r hb) i ∷ [] in
    let parts : cut (32 ∷ window_len s ∷ window_len s ∷ []) (concat ps) ≡ ps = (λ i. cut (w i) (sym (append-nil (concat ps)) i)) ∙ cut_back ps [] in
    ap (λ (x : XKind). terms_at s n x (concat ps)) (is ∙ form.0)
    ∙ ap (λ (x : List (List ℕ)). forms.Balanced (part x 0) (set_at s n (part x 1)) (set_at s n (part x 2))) parts
    ∙ λ i. forms.Balanced nonce (set_at_back s n r ha same form.2 i) (set_at_back s n r hb same form.3 i)
terms_back s n r k k' (forms.Push a b u v z) same is form =
    let ps = term_pieces s r (forms.Push a b u v z) in
    let w : window_len s ∷ window_len s ∷ window_len s ∷ window_len s ∷ 1 ∷ [] ≡ map length ps = λ i. sym (length_set s r a) i ∷ sym (length_set s r b) i ∷ sym (length_set s r u) i ∷ sym (length_set s r v) i ∷ 1 ∷ [] in
    let parts : cut (window_len s ∷ window_len s ∷ window_len s ∷ window_len s ∷ 1 ∷ []) (concat ps) ≡ ps = (λ i. cut (w i) (sym (append-nil (concat ps)) i)) ∙ cut_back ps [] in
    ap (λ (x : XKind). terms_at s n x (concat ps)) (is ∙ form.0)
    ∙ ap (λ (x : List (List ℕ)). forms.Push (set_at s n (part x 0)) (set_at s n (part x 1)) (set_at s n (part x 2)) (set_at s n (part x 3)) (number (part x 4))) parts
    ∙ λ i. forms.Push (set_at_back s n r a same form.1 i) (set_at_back s n r b same form.2 i) (set_at_back s n r u same form.3 i) (set_at_back s n r v same form.4 i) z

case_back : (s : Shape) (n : ℕ) (c : Briefcase) → n ≡ c.round → HasForm s (Case c) → round_body s (kind_of (Case c)) n (pieces s (Case c)) ≡ Case c
case_back s n c same form = λ i. Case (record {
  round = same i;
  kind = kind_back c.kind i;
  role = role_back c.role i;
  updates = c.updates;
  junk = c.junk;
  terms = terms_back s n c.round c.kind (kind_from (kind_code c.kind)) c.terms same (kind_back c.kind) form.1 i;
  cipher = c.cipher;
})

-- the fields from their parts, if the round is read already
round_back : (s : Shape) (n : ℕ) (b : Body) → HasForm s b → n ≡ from_be_bytes w32 (part (pieces s b) 0) → round_body s (kind_of b) n (pieces s b) ≡ b
round_back s n (Manifest r ds) form is = λ i. Manifest ((is ∙ u32_back r form.0) i) (chunks_back 32 ds form.1 i)
round_back s n (Block u block) form is = λ i. Block (record { round = (is ∙ u32_back u.round form.0) i; index = u.index }) block
round_back s n (Request r seed commitment) form is = λ i. Request ((is ∙ u32_back r form.0) i) seed commitment
round_back s n (Response r hb) form is = let e = is ∙ u32_back r form.0 in λ i. Response (e i) (set_at_back s n r hb e form.1 i)
round_back s n (Divulge r nonce ha) form is = let e = is ∙ u32_back r form.0 in λ i. Divulge (e i) nonce (set_at_back s n r ha e form.2 i)
round_back s n (Query r seed young aged) form is = let e = is ∙ u32_back r form.0 in λ i. Query (e i) seed (set_at_back s n r young e form.2 i) (set_at_back s n r aged e form.3 i)
round_back s n (Reply r want give junk) form is = let e = is ∙ u32_back r form.0 in λ i. Reply (e i) (set_at_back s n r want e form.1 i) (set_at_back s n r give e form.2 i) junk
round_back s n (Case c) form is = case_back s n c (is ∙ u32_back c.round form.0) form
round_back s n (KeyReq r kind role) form is = λ i. KeyReq ((is ∙ u32_back r form) i) (kind_back kind i) (role_back role i)
round_back s n (Key k) form is = λ i. Key (record { round = (is ∙ u32_back k.round form.0) i; kind = kind_back k.kind i; role = role_back k.role i; key = k.key })
round_back s n (Evidence ds) form is = ap Evidence (entries_back ds form)
round_back s n (Evict r ps) form is = λ i. Evict ((is ∙ u32_back r form.0) i) (pairs_back ps form.1 i)

-- a body is read at the places of its kind in its bytes, whatever follows them
pub body_back : (s : Shape) (b : Body) (x : List ℕ) → HasForm s b → body_at s (kind_of b) (concat (pieces s b) ++ x) ≡ b
body_back s b x form =
    let bytes = concat (pieces s b) ++ x in
    let parts : cut (widths s (kind_of b) bytes) bytes ≡ pieces s b = ap (λ (ns : List ℕ). cut ns bytes) (widths_are s b x form) ∙ cut_back (pieces s b) x in
    ap (λ (ps : List (List ℕ)). round_body s (kind_of b) (from_be_bytes w32 (part ps 0)) ps) parts ∙ round_back s (from_be_bytes w32 (part (pieces s b) 0)) b form refl

-- its length is the one that the counts give
pub len_back : (s : Shape) (b : Body) (x : List ℕ) → HasForm s b → fields_len s (kind_of b) (concat (pieces s b) ++ x) ≡ length (concat (pieces s b))
len_back s b x form = ap sum (widths_are s b x form) ∙ sym (length_concat (pieces s b))
