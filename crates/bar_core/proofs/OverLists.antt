-- What the concatenation of two lists of inputs sends and plays.
use Rattle.std.proofs.Common.{◌≡◌, List, [], ◌∷◌, ◌++◌, sym, ap, ◌∙◌, append-nil, append_assoc}
use Rattle.bar_wire.specs.Inputs.{Input}
use Rattle.bar_core.specs.Rules.{Rules}
use Rattle.bar_core.specs.Runs.{sends_over, contents_over}

pub sends_over-append : (r : Rules) (before xs ys : List Input) →
    sends_over r before (xs ++ ys) ≡ sends_over r before xs ++ sends_over r (before ++ xs) ys
sends_over-append r before [] ys = ap (λ h. sends_over r h ys) (sym (append-nil before))
sends_over-append r before (x ∷ xs) ys =
    ap (λ rest. r.sends before x ++ rest)
    (sends_over-append r (before ++ x ∷ []) xs ys
    ∙ ap (λ h. sends_over r (before ++ x ∷ []) xs ++ sends_over r h ys) (append_assoc before (x ∷ []) xs))
    ∙ sym (append_assoc (r.sends before x) (sends_over r (before ++ x ∷ []) xs) (sends_over r (before ++ x ∷ xs) ys))

pub contents_over-append : (r : Rules) (before xs ys : List Input) →
    contents_over r before (xs ++ ys) ≡ contents_over r before xs ++ contents_over r (before ++ xs) ys
contents_over-append r before [] ys = ap (λ h. contents_over r h ys) (sym (append-nil before))
contents_over-append r before (x ∷ xs) ys =
    ap (λ rest. r.contents before x ++ rest)
    (contents_over-append r (before ++ x ∷ []) xs ys
    ∙ ap (λ h. contents_over r (before ++ x ∷ []) xs ++ contents_over r h ys) (append_assoc before (x ∷ []) xs))
    ∙ sym (append_assoc (r.contents before x) (contents_over r (before ++ x ∷ []) xs) (contents_over r (before ++ x ∷ xs) ys))
