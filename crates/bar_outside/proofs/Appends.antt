-- Pieces that are appended to one file, in order.
use Rattle.std.proofs.Common.{◌≡◌, ◌≢◌, ◌⊎◌, ◌≤◌, ℕ, ◌+◌, List, [], ◌∷◌, ◌++◌, Some, IsTrue, refl, sym, ap, ◌∙◌, map, length, take, append-nil, append_assoc, inl, inr, subst, min, arith}
use Rattle.std.proofs.lemmas.List.{take-append-le, take_min}
use Rattle.std.proofs.Math.Seq.{take-append-add}
use Rattle.std.specs.List.{concat}
use Rattle.bar_outside.specs.Disk.{Content, CreatedFiles, Failure, appended}
use Rattle.bar_outside.specs.declared.files.CallKind.TheVariants.{Append}
use Rattle.bar_outside.specs.Plan.{Action, Begun, CanRun, IsPartOf, IsShowNext, Names, Touches, content_after, shown}
use Rattle.bar_outside.specs.Plan.Action.{read, create, append, show, link}
use Rattle.bar_outside.proofs.Contents.{appended-same, appended-other}
use Rattle.bar_outside.proofs.ActionLists.{Begun-first, Begun-none, nil-cons}

pub can-appends : (path : List ℕ) (pieces : List (List ℕ)) (rest : List Action) (here : CreatedFiles) → IsTrue (here path) →
    CanRun rest here → CanRun (map (append path) pieces ++ rest) here
can-appends path [] rest here made h = h
can-appends path (x ∷ xs) rest here made h = (made, can-appends path xs rest here made h)

-- the content of this file afterwards, and of the others
pub appends-same : (path held : List ℕ) (pieces : List (List ℕ)) (content : Content) → content path ≡ Some held →
    content_after (map (append path) pieces) content path ≡ Some (held ++ concat pieces)
appends-same path held [] content h = h ∙ ap Some (sym (append-nil held))
appends-same path held (x ∷ xs) content h =
    appends-same path (held ++ x) xs (appended content path x) (appended-same content path x held h)
    ∙ ap Some (append_assoc held x (concat xs))

pub appends-other : (path : List ℕ) (pieces : List (List ℕ)) (content : Content) (q : List ℕ) → q ≢ path →
    content_after (map (append path) pieces) content q ≡ content q
appends-other path [] content q differs = refl
appends-other path (x ∷ xs) content q differs =
    appends-other path xs (appended content path x) q differs ∙ appended-other content path x q differs

-- appends print nothing
pub shown-appends : (path : List ℕ) (pieces : List (List ℕ)) → shown (map (append path) pieces) ≡ []
shown-appends path [] = refl
shown-appends path (x ∷ xs) = shown-appends path xs

-- none of these actions prints
pub no-show : (path : List ℕ) (pieces : List (List ℕ)) (front rest : List Action) →
    map (append path) pieces ≡ front ++ rest → IsShowNext rest → ⊥
no-show path [] [] rest p h = subst IsShowNext (sym p) h
no-show path (x ∷ xs) [] rest p h = subst IsShowNext (sym p) h
no-show path [] (f ∷ fs) rest p h = nil-cons f (fs ++ rest) p
no-show path (x ∷ xs) (f ∷ fs) rest p h = let q : map (append path) xs ≡ fs ++ rest = cc in no-show path xs fs rest q h

-- they touch only this file, and each call is an append to it
pub touched-appends : (path : List ℕ) (pieces : List (List ℕ)) (rest : List Action) (q : List ℕ) →
    Touches (map (append path) pieces ++ rest) q → (q ≡ path) ⊎ Touches rest q
touched-appends path [] rest q h = inr h
touched-appends path (x ∷ xs) rest q (inl e) = inl e
touched-appends path (x ∷ xs) rest q (inr h) = touched-appends path xs rest q h

pub named-appends : (path : List ℕ) (pieces : List (List ℕ)) (rest : List Action) (call : Failure) →
    Names (map (append path) pieces ++ rest) call → (call ≡ record { kind = Append; path = path }) ⊎ Names rest call
named-appends path [] rest call h = inr h
named-appends path (x ∷ xs) rest call (inl e) = inl e
named-appends path (x ∷ xs) rest call (inr h) = named-appends path xs rest call h

-- a prefix of a list is a prefix of every extension of it
pub take-more : (k : ℕ) (xs ys : List ℕ) → take (min k (length xs)) (xs ++ ys) ≡ take k xs
take-more k xs ys = let h : min k (length xs) ≤ length xs = omega arith in rw (take-append-le (min k (length xs)) xs ys h) (take_min k xs)

-- a partial append appends a prefix and prints nothing
part-append : (part : Action) (path x held : List ℕ) (content : Content) → content path ≡ Some held → IsPartOf part (append path x) →
    (k : ℕ) × (content_after (part ∷ []) content path ≡ Some (held ++ take k x)) × (shown (part ∷ []) ≡ [])
part-append (append q bytes) path x held content there h =
    (h.1.0, rw (h.0, h.1.1) (appended-same content path (take h.1.0 x) held there), refl)
part-append (read q) path x held content there h = absurd h
part-append (create q) path x held content there h = absurd h
part-append (show bytes) path x held content there h = absurd h
part-append (link call) path x held content there h = absurd h

-- what was done of the appends: a prefix of their bytes follows the old content
pub begun-appends : (path held : List ℕ) (pieces : List (List ℕ)) (content : Content) (done : List Action) → content path ≡ Some held →
    Begun (map (append path) pieces) done →
    (k : ℕ) × (content_after done content path ≡ Some (held ++ take k (concat pieces))) × (shown done ≡ [])
begun-appends path held [] content done there b =
    let e = Begun-none done b in
    (0, ap (λ xs. content_after xs content path) e ∙ there ∙ ap Some (sym (append-nil held)), ap shown e)
begun-appends path held (x ∷ xs) content done there b =
    elim (Begun-first (append path x) (map (append path) xs) done b) [
      | inl e ↦ (0, ap (λ xs. content_after xs content path) e.0 ∙ there ∙ ap Some (sym (append-nil held)), ap shown e.0)
      | inr two ↦ elim two [
        | inl part ↦
            let p = part-append part.0 path x held content there part.2 in (
              min p.0 (length x),
              ap (λ xs. content_after xs content path) part.1 ∙ p.1
                  ∙ ap (λ bytes. Some (held ++ bytes)) (sym (take-more p.0 x (concat xs))),
              ap shown part.1 ∙ p.2,
            )
        | inr more ↦
            let there_too = appended-same content path x held there in
            let p = begun-appends path (held ++ x) xs (appended content path x) more.0 there_too more.2 in (
              length x + p.0,
              ap (λ xs. content_after xs content path) more.1 ∙ p.1
                  ∙ ap Some (append_assoc held x (take p.0 (concat xs))
                  ∙ ap (λ bytes. held ++ bytes) (sym (take-append-add x (concat xs) p.0))),
              ap shown more.1 ∙ p.2,
            )
      ]
    ]
