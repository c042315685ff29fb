-- What actions append to a file that none of them creates.
use Rattle.std.proofs.Common.{◌≡◌, ◌≢◌, ℕ, Bool, true, false, cond, List, [], ◌∷◌, ◌++◌, take, drop, refl, sym, ap, ◌∙◌, subst, append-nil, append_assoc, Some}
use Rattle.std.specs.List.{flat_map}
use Rattle.std.specs.Str.{bytes_eq}
use Rattle.std.proofs.lemmas.Bool.{false_from_ne_true}
use Rattle.std.proofs.lemmas.List.{take-append-drop}
use Rattle.std.proofs.lemmas.Slice.Eq.{bytes_eq-Decides}
use Rattle.bar_outside.specs.Disk.{Content, appended, created}
use Rattle.bar_outside.specs.Plan.{Action, IsPartOfNext, content_after}
use Rattle.bar_outside.specs.Plan.Action.{append, create, link, read, show}
use Rattle.bar_outside.proofs.Contents.{appended-other, appended-same, put_at-other}
use Rattle.bar_node.specs.Code.Effects.{added_by, added_in, creates}
use Rattle.bar_node.specs.Stops.{IsFront}
use Rattle.bar_node.proofs.Yields.{cons-nil, front-behind, front-longer, front-none}
use Rattle.bar_node.proofs.Receiving.{no-link-part}

pub other-name : (path name : List ℕ) → path ≢ name → bytes_eq path name ≡ false
other-name path name h = false_from_ne_true (bytes_eq path name) (λ e. h ((bytes_eq-Decides path name).0 e))

-- a mark if the file of this name is created
abbrev pub made_by : List ℕ → Action → List (Unit {0})
made_by path a = cond (creates path a) (tt ∷ []) []

-- ---- the resulting content of the file

not-made : (path name : List ℕ) (others : List (Unit {0})) (b : Bool) → bytes_eq path name ≡ b → cond b (tt ∷ []) [] ++ others ≡ [] →
    (path ≢ name) × (others ≡ [])
not-made path name others true e none = absurd (cons-nil tt others none)
not-made path name others false e none = (λ same. differ same, none)
  where
    differ : path ≡ name → ⊥
    differ same = let h : bytes_eq path name ≡ true = (bytes_eq-Decides path name).1 same in cc

added-one : (path name bytes held : List ℕ) (content : Content) (b : Bool) → bytes_eq path name ≡ b → content path ≡ Some held →
    appended content name bytes path ≡ Some (held ++ cond b bytes [])
added-one path name bytes held content true e there =
    subst (λ q. appended content q bytes path ≡ Some (held ++ bytes)) ((bytes_eq-Decides path name).0 e)
    (appended-same content path bytes held there)
added-one path name bytes held content false e there =
    appended-other content name bytes path (λ same. differ same) ∙ there ∙ ap Some (sym (append-nil held))
  where
    differ : path ≡ name → ⊥
    differ same = let h : bytes_eq path name ≡ true = (bytes_eq-Decides path name).1 same in cc

pub content-added : (path held : List ℕ) (acts : List Action) (content : Content) → flat_map (made_by path) acts ≡ [] →
    content path ≡ Some held → content_after acts content path ≡ Some (held ++ added_in path acts)
content-added path held [] content none there = there ∙ ap Some (sym (append-nil held))
content-added path held (append name bytes ∷ acts) content none there =
    content-added path (held ++ added_by path (append name bytes)) acts (appended content name bytes) none
    (added-one path name bytes held content (bytes_eq path name) refl there)
    ∙ ap Some (append_assoc held (added_by path (append name bytes)) (added_in path acts))
content-added path held (create name ∷ acts) content none there =
    let h = not-made path name (flat_map (made_by path) acts) (bytes_eq path name) refl none in
    content-added path held acts (created content name) h.1 (put_at-other content name [] path h.0 ∙ there)
content-added path held (read name ∷ acts) content none there = content-added path held acts content none there
content-added path held (show bytes ∷ acts) content none there = content-added path held acts content none there
content-added path held (link call ∷ acts) content none there = content-added path held acts content none there

-- ---- a partial action appends or creates a prefix of what the whole action does

front-take : (b : Bool) (k : ℕ) (bytes : List ℕ) → IsFront (cond b (take k bytes) []) (cond b bytes [])
front-take true k bytes = record { rest = drop k bytes; is = sym (take-append-drop k bytes) }
front-take false k bytes = front-none []

pub added-front : (path : List ℕ) (part rest : List Action) → IsPartOfNext part rest → IsFront (added_in path part) (added_in path rest)
added-front path [] rest h = front-none (added_in path rest)
added-front path (a ∷ []) [] h = absurd h
added-front path (append name bytes ∷ []) (append q whole ∷ rest) h =
    let e : added_by path (append name bytes) ≡ cond (bytes_eq path q) (take h.1.0 whole) [] = rw (h.0, h.1.1) refl in
    subst (λ xs. IsFront xs (added_in path (append q whole ∷ rest))) (sym (append-nil (added_by path (append name bytes)) ∙ e))
    (front-longer _ _ (added_in path rest) (front-take (bytes_eq path q) h.1.0 whole))
added-front path (append name bytes ∷ []) (read q ∷ rest) h = absurd h
added-front path (append name bytes ∷ []) (create q ∷ rest) h = absurd h
added-front path (append name bytes ∷ []) (show other ∷ rest) h = absurd h
added-front path (append name bytes ∷ []) (link call ∷ rest) h = absurd h
added-front path (create name ∷ []) (b ∷ rest) h = front-none (added_in path (b ∷ rest))
added-front path (read name ∷ []) (b ∷ rest) h = front-none (added_in path (b ∷ rest))
added-front path (show bytes ∷ []) (b ∷ rest) h = front-none (added_in path (b ∷ rest))
added-front path (link call ∷ []) (b ∷ rest) h = absurd (no-link-part call b h)
added-front path (a ∷ b ∷ more) rest h = absurd h

pub made-front : (path : List ℕ) (part rest : List Action) → IsPartOfNext part rest →
    IsFront (flat_map (made_by path) part) (flat_map (made_by path) rest)
made-front path [] rest h = front-none (flat_map (made_by path) rest)
made-front path (a ∷ []) [] h = absurd h
made-front path (create name ∷ []) (create q ∷ rest) h =
    subst (λ n. IsFront (made_by path (create n) ++ []) (flat_map (made_by path) (create q ∷ rest))) (sym h)
    (front-behind (made_by path (create q)) [] (flat_map (made_by path) rest) (front-none (flat_map (made_by path) rest)))
made-front path (create name ∷ []) (read q ∷ rest) h = absurd h
made-front path (create name ∷ []) (append q bytes ∷ rest) h = absurd h
made-front path (create name ∷ []) (show bytes ∷ rest) h = absurd h
made-front path (create name ∷ []) (link call ∷ rest) h = absurd h
made-front path (append name bytes ∷ []) (b ∷ rest) h = front-none (flat_map (made_by path) (b ∷ rest))
made-front path (read name ∷ []) (b ∷ rest) h = front-none (flat_map (made_by path) (b ∷ rest))
made-front path (show bytes ∷ []) (b ∷ rest) h = front-none (flat_map (made_by path) (b ∷ rest))
made-front path (link call ∷ []) (b ∷ rest) h = absurd (no-link-part call b h)
made-front path (a ∷ b ∷ more) rest h = absurd h
