-- A list that is written over a part of another.
use Rattle.std.proofs.Common.{◌≡◌, ℕ, ◌+◌, ◌-◌, ◌≤◌, List, ◌++◌, length, take, drop, sym, ap, ◌∙◌, inl, inr, ◌⊎◌, append_assoc, length-append, length-drop, arith}
use Rattle.std.proofs.lemmas.List.{length-take, drop-append-le, take-append-le, drop-drop, take-take, drop-take}
use Rattle.std.proofs.Math.Seq.{drop-append_seam, drop-append-add, take-append_seam}

-- the part that is written
pub written : {A : Type 0} (xs ys : List A) (s : ℕ) → s ≤ length xs → take (length ys) (drop s (take s xs ++ (ys ++ drop (s + length ys) xs))) ≡ ys
written xs ys s le =
    let front : length (take s xs) ≡ s = omega (arith, length-take s xs, le) in
    let rest = ys ++ drop (s + length ys) xs in
    ap (take (length ys)) (ap (λ n. drop n (take s xs ++ rest)) (sym front) ∙ drop-append_seam (take s xs) rest) ∙ take-append_seam ys (drop (s + length ys) xs)

pub written_len : {A : Type 0} (xs ys : List A) (s : ℕ) → s + length ys ≤ length xs → length (take s xs ++ (ys ++ drop (s + length ys) xs)) ≡ length xs
written_len xs ys s le = omega (arith, length-append (take s xs) (ys ++ drop (s + length ys) xs), length-append ys (drop (s + length ys) xs), length-take s xs, length-drop (s + length ys) xs, le)

-- a part beside it is unchanged
pub beside : {A : Type 0} (xs ys : List A) (s a c : ℕ) → s + length ys ≤ length xs → (a + c ≤ s) ⊎ (s + length ys ≤ a) → take c (drop a (take s xs ++ (ys ++ drop (s + length ys) xs))) ≡ take c (drop a xs)
beside xs ys s a c le (inl before) =
    let rest = ys ++ drop (s + length ys) xs in
    let front : length (take s xs) ≡ s = omega (arith, length-take s xs, le) in
    let m = s - a in
    let whole : s ≡ a + m = omega (arith, before) in
    let part : drop a (take s xs) ≡ take m (drop a xs) = ap (λ n. drop a (take n xs)) whole ∙ drop-take a m xs in
    let long : c ≤ length (drop a (take s xs)) = omega (arith, length-drop a (take s xs), front, before) in
    ap (take c) (drop-append-le a (take s xs) rest (omega (arith, front, before))) ∙ take-append-le c (drop a (take s xs)) rest long ∙ ap (take c) part ∙ take-take c m (drop a xs) (omega (arith, before))
beside xs ys s a c le (inr after) =
    let front = take s xs ++ ys in
    let e = s + length ys in
    let long : length front ≡ e = omega (arith, length-append (take s xs) ys, length-take s xs, le) in
    let m = a - e in
    let from : a ≡ length front + m = omega (arith, after, long) in
    let there : e + m ≡ a = omega (arith, after) in
    ap (λ zs. take c (drop a zs)) (sym (append_assoc (take s xs) ys (drop e xs))) ∙ ap (λ n. take c (drop n (front ++ drop e xs))) from ∙ ap (take c) (drop-append-add front (drop e xs) m ∙ drop-drop m e xs) ∙ ap (λ n. take c (drop n xs)) there
