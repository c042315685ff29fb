-- If two concatenations of pieces of the same lengths are equal, they are equal piece by piece.
use Rattle.std.proofs.Common.{◌≡◌, ℕ, ◌<◌, ◌^◌, List, [], ◌∷◌, ◌++◌, length, refl, sym, ap, subst, ◌∙◌, append_assoc, arith}
use Rattle.std.specs.List.{concat, flat_map, AllByRecursion}
use Rattle.std.specs.Int.{w16, w32, from_be_bytes}
use Rattle.std.proofs.lemmas.Nat.{from_be_bytes-to_be_bytes_2, from_be_bytes-to_be_bytes_4}
use Rattle.bar_bytes.specs.Bytes.{u16_bytes, u32_bytes}
use Rattle.bar_bytes.proofs.Lengths.{length_u16, length_u32}
use Rattle.bar_window.specs.declared.update.UpdateId.{UpdateId}
use Rattle.bar_wire.specs.declared.shape.Shape.{Shape}
use Rattle.bar_wire.specs.Grammar.{entry, set_bytes, IsWindowSet}
use Rattle.bar_wire.proofs.WindowLaws.{set_told}

pub record Peeled (p q a b : List ℕ) : Type 0 where
  pub front : p ≡ q
  pub rest : a ≡ b

pub peel : (p q a b : List ℕ) → length p ≡ length q → p ++ a ≡ q ++ b → Peeled p q a b
peel [] [] a b len e = record { front = refl; rest = e }
peel [] (y ∷ q) a b len e = absurd (omega (arith, len))
peel (x ∷ p) [] a b len e = absurd (omega (arith, len))
peel (x ∷ p) (y ∷ q) a b len e =
    let tails : p ++ a ≡ q ++ b = cc in
    let heads : x ≡ y = cc in
    let same = peel p q a b (omega (arith, len)) tails in
    record { front = λ i. heads i ∷ same.front i; rest = same.rest }

-- the first pieces are equal, and so is what follows them
pub peel_piece : (p q : List ℕ) (ps qs : List (List ℕ)) (x y : List ℕ) → length p ≡ length q → concat (p ∷ ps) ++ x ≡ concat (q ∷ qs) ++ y → Peeled p q (concat ps ++ x) (concat qs ++ y)
peel_piece p q ps qs x y len e = peel p q (concat ps ++ x) (concat qs ++ y) len (sym (append_assoc p (concat ps) x) ∙ e ∙ append_assoc q (concat qs) y)

pub same_u32 : (m n : ℕ) → m < 2 ^ 32 → n < 2 ^ 32 → u32_bytes m ≡ u32_bytes n → m ≡ n
unfolding u32_bytes
same_u32 m n p q e = sym (from_be_bytes-to_be_bytes_4 m p) ∙ ap (from_be_bytes w32) e ∙ from_be_bytes-to_be_bytes_4 n q

pub same_u16 : (m n : ℕ) → m < 2 ^ 16 → n < 2 ^ 16 → u16_bytes m ≡ u16_bytes n → m ≡ n
unfolding u16_bytes
same_u16 m n p q e = sym (from_be_bytes-to_be_bytes_2 m p) ∙ ap (from_be_bytes w16) e ∙ from_be_bytes-to_be_bytes_2 n q

pub same_u8 : (m n : ℕ) → m ∷ [] ≡ n ∷ [] → m ≡ n
same_u8 m n e = cc

pub peel_u32 : (m n : ℕ) (ps qs : List (List ℕ)) (x y : List ℕ) → m < 2 ^ 32 → n < 2 ^ 32 → concat (u32_bytes m ∷ ps) ++ x ≡ concat (u32_bytes n ∷ qs) ++ y → (m ≡ n) × (concat ps ++ x ≡ concat qs ++ y)
peel_u32 m n ps qs x y p q e =
    let r = peel_piece (u32_bytes m) (u32_bytes n) ps qs x y (length_u32 m ∙ sym (length_u32 n)) e in
    (same_u32 m n p q r.front, r.rest)

pub peel_u8 : (m n : ℕ) (ps qs : List (List ℕ)) (x y : List ℕ) → concat ((m ∷ []) ∷ ps) ++ x ≡ concat ((n ∷ []) ∷ qs) ++ y → (m ≡ n) × (concat ps ++ x ≡ concat qs ++ y)
peel_u8 m n ps qs x y e =
    let r = peel_piece (m ∷ []) (n ∷ []) ps qs x y refl e in
    (same_u8 m n r.front, r.rest)

pub peel_u16 : (m n : ℕ) (ps qs : List (List ℕ)) (x y : List ℕ) → m < 2 ^ 16 → n < 2 ^ 16 → concat (u16_bytes m ∷ ps) ++ x ≡ concat (u16_bytes n ∷ qs) ++ y → (m ≡ n) × (concat ps ++ x ≡ concat qs ++ y)
peel_u16 m n ps qs x y p q e =
    let r = peel_piece (u16_bytes m) (u16_bytes n) ps qs x y (length_u16 m ∙ sym (length_u16 n)) e in
    (same_u16 m n p q r.front, r.rest)

-- ---- lists of items, each of which is determined by its bytes

pub peel_flat : {X : Type 0} (f : X → List ℕ) (P : X → Type 0) (one : (a b : X) (x y : List ℕ) → P a → P b → f a ++ x ≡ f b ++ y → (a ≡ b) × (x ≡ y))
    → (xs ys : List X) (x y : List ℕ) → length xs ≡ length ys → AllByRecursion P xs → AllByRecursion P ys → flat_map f xs ++ x ≡ flat_map f ys ++ y → (xs ≡ ys) × (x ≡ y)
peel_flat f P one [] [] x y len p q e = (refl, e)
peel_flat f P one [] (b ∷ ys) x y len p q e = absurd (omega (arith, len))
peel_flat f P one (a ∷ xs) [] x y len p q e = absurd (omega (arith, len))
peel_flat f P one (a ∷ xs) (b ∷ ys) x y len p q e =
    let first = one a b (flat_map f xs ++ x) (flat_map f ys ++ y) p.0 q.0 (sym (append_assoc (f a) (flat_map f xs) x) ∙ e ∙ append_assoc (f b) (flat_map f ys) y) in
    let others = peel_flat f P one xs ys x y (omega (arith, len)) p.1 q.1 first.1 in
    (λ i. first.0 i ∷ others.0 i, others.1)

one_u16 : (a b : ℕ) (x y : List ℕ) → a < 2 ^ 16 → b < 2 ^ 16 → u16_bytes a ++ x ≡ u16_bytes b ++ y → (a ≡ b) × (x ≡ y)
one_u16 a b x y p q e = let r = peel (u16_bytes a) (u16_bytes b) x y (length_u16 a ∙ sym (length_u16 b)) e in (same_u16 a b p q r.front, r.rest)

one_entry : (a b x y : List ℕ) → length a < 2 ^ 16 → length b < 2 ^ 16 → entry a ++ x ≡ entry b ++ y → (a ≡ b) × (x ≡ y)
one_entry a b x y p q e =
    let r = one_u16 (length a) (length b) (a ++ x) (b ++ y) p q (sym (append_assoc (u16_bytes (length a)) a x) ∙ e ∙ append_assoc (u16_bytes (length b)) b y) in
    let t = peel a b x y r.0 r.1 in
    (t.front, t.rest)

-- a set of updates of the window of a round
pub peel_set : (s : Shape) (r r' : ℕ) (us vs : List UpdateId) (ps qs : List (List ℕ)) (x y : List ℕ) → r ≡ r' → IsWindowSet s r us → IsWindowSet s r' vs → concat (set_bytes s r us ∷ ps) ++ x ≡ concat (set_bytes s r' vs ∷ qs) ++ y → (us ≡ vs) × (concat ps ++ x ≡ concat qs ++ y)
peel_set s r r' us vs ps qs x y same p q e =
    let moved : set_bytes s r us ++ (concat ps ++ x) ≡ set_bytes s r vs ++ (concat qs ++ y) = sym (append_assoc (set_bytes s r us) (concat ps) x) ∙ e ∙ append_assoc (set_bytes s r' vs) (concat qs) y ∙ ap (λ (n : ℕ). set_bytes s n vs ++ (concat qs ++ y)) (sym same) in
    set_told s r us vs (concat ps ++ x) (concat qs ++ y) p (subst (λ (n : ℕ). IsWindowSet s n vs) (sym same) q) moved

-- parts of one length
pub peel_parts : (n : ℕ) (ws vs : List (List ℕ)) (x y : List ℕ) → length ws ≡ length vs → AllByRecursion (λ d. length d ≡ n) ws → AllByRecursion (λ d. length d ≡ n) vs → concat ws ++ x ≡ concat vs ++ y → (ws ≡ vs) × (x ≡ y)
peel_parts n [] [] x y len p q e = (refl, e)
peel_parts n [] (b ∷ vs) x y len p q e = absurd (omega (arith, len))
peel_parts n (a ∷ ws) [] x y len p q e = absurd (omega (arith, len))
peel_parts n (a ∷ ws) (b ∷ vs) x y len p q e =
    let first = peel_piece a b ws vs x y (p.0 ∙ sym q.0) e in
    let others = peel_parts n ws vs x y (omega (arith, len)) p.1 q.1 first.rest in
    (λ i. first.front i ∷ others.0 i, others.1)

pub peel_parties : (ws vs : List ℕ) (x y : List ℕ) → length ws ≡ length vs → AllByRecursion (λ p. p < 2 ^ 16) ws → AllByRecursion (λ p. p < 2 ^ 16) vs → concat (flat_map u16_bytes ws ∷ []) ++ x ≡ concat (flat_map u16_bytes vs ∷ []) ++ y → (ws ≡ vs) × (x ≡ y)
peel_parties ws vs x y len p q e =
    peel_flat u16_bytes (λ n. n < 2 ^ 16) one_u16 ws vs x y len p q (sym (append_assoc (flat_map u16_bytes ws) [] x) ∙ e ∙ append_assoc (flat_map u16_bytes vs) [] y)

pub peel_entries : (ws vs : List (List ℕ)) (x y : List ℕ) → length ws ≡ length vs → AllByRecursion (λ d. length d < 2 ^ 16) ws → AllByRecursion (λ d. length d < 2 ^ 16) vs → concat (flat_map entry ws ∷ []) ++ x ≡ concat (flat_map entry vs ∷ []) ++ y → (ws ≡ vs) × (x ≡ y)
peel_entries ws vs x y len p q e =
    peel_flat entry (λ d. length d < 2 ^ 16) one_entry ws vs x y len p q (sym (append_assoc (flat_map entry ws) [] x) ∙ e ∙ append_assoc (flat_map entry vs) [] y)
