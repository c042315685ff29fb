-- Laws of how a command ends.
use Rattle.std.proofs.Common.{◌≡◌, ◌⊎◌, ℕ, List, [], ◌∷◌, ◌++◌, refl, sym, ap, ◌∙◌, subst, IsTrue, inl, inr}
use Rattle.bar_outside.specs.Disk.{Content}
use Rattle.bar_outside.specs.Plan.{Outside, Action, Plan, Begun, Reached, IsPartOf, IsPartOfNext, Touches, content_after, content_by}
use Rattle.bar_outside.specs.Plan.Action.{read, create, append, show, link}
use Rattle.bar_outside.specs.Ends.{Ends}
use Rattle.bar_outside.proofs.Contents.{put_at-other, appended-other}

pub content-untouched : (acts : List Action) (content : Content) (path : List ℕ) → (Touches acts path → ⊥) → content_after acts content path ≡ content path
content-untouched [] content path h = refl
content-untouched (read name ∷ others) content path h = content-untouched others content path h
content-untouched (show bytes ∷ others) content path h = content-untouched others content path h
content-untouched (link call ∷ others) content path h = content-untouched others content path h
content-untouched (create name ∷ others) content path h =
    content-untouched others (content_by (create name) content) path (λ t. h (inr t)) ∙ put_at-other content name [] path (λ e. h (inl e))
content-untouched (append name bytes ∷ others) content path h =
    content-untouched others (content_by (append name bytes) content) path (λ t. h (inr t)) ∙ appended-other content name bytes path (λ e. h (inl e))

pub Touches-split : (xs ys : List Action) (path : List ℕ) → Touches (xs ++ ys) path → Touches xs path ⊎ Touches ys path
Touches-split [] ys path t = inr t
Touches-split (read name ∷ others) ys path t = Touches-split others ys path t
Touches-split (show bytes ∷ others) ys path t = Touches-split others ys path t
Touches-split (link call ∷ others) ys path t = Touches-split others ys path t
Touches-split (create name ∷ others) ys path (inl e) = inl (inl e)
Touches-split (create name ∷ others) ys path (inr t) = elim (Touches-split others ys path t) [ inl a ↦ inl (inr a) | inr b ↦ inr b ]
Touches-split (append name bytes ∷ others) ys path (inl e) = inl (inl e)
Touches-split (append name bytes ∷ others) ys path (inr t) = elim (Touches-split others ys path t) [ inl a ↦ inl (inr a) | inr b ↦ inr b ]

Touches-left : (xs ys : List Action) (path : List ℕ) → Touches xs path → Touches (xs ++ ys) path
Touches-left [] ys path t = absurd t
Touches-left (read name ∷ others) ys path t = Touches-left others ys path t
Touches-left (show bytes ∷ others) ys path t = Touches-left others ys path t
Touches-left (link call ∷ others) ys path t = Touches-left others ys path t
Touches-left (create name ∷ others) ys path (inl e) = inl e
Touches-left (create name ∷ others) ys path (inr t) = inr (Touches-left others ys path t)
Touches-left (append name bytes ∷ others) ys path (inl e) = inl e
Touches-left (append name bytes ∷ others) ys path (inr t) = inr (Touches-left others ys path t)

Touches-right : (xs ys : List Action) (path : List ℕ) → Touches ys path → Touches (xs ++ ys) path
Touches-right [] ys path t = t
Touches-right (read name ∷ others) ys path t = Touches-right others ys path t
Touches-right (show bytes ∷ others) ys path t = Touches-right others ys path t
Touches-right (link call ∷ others) ys path t = Touches-right others ys path t
Touches-right (create name ∷ others) ys path t = inr (Touches-right others ys path t)
Touches-right (append name bytes ∷ others) ys path t = inr (Touches-right others ys path t)

-- a partial action touches only what the whole action touches
Touches-one : (a b : Action) (rest : List Action) (path : List ℕ) → IsPartOf a b → Touches (a ∷ []) path → Touches (b ∷ rest) path
Touches-one (append p bs) (append q cs) rest path h (inl e) = inl (e ∙ h.0)
Touches-one (append p bs) (append q cs) rest path h (inr t) = absurd t
Touches-one (append p bs) (read q) rest path h t = absurd h
Touches-one (append p bs) (create q) rest path h t = absurd h
Touches-one (append p bs) (show cs) rest path h t = absurd h
Touches-one (append p bs) (link call) rest path h t = absurd h
Touches-one (show bs) b rest path h t = absurd t
Touches-one (link call) b rest path h t = absurd t
Touches-one (read p) b rest path h t = absurd t
Touches-one (create p) (read q) rest path h t = absurd h
Touches-one (create p) (create q) rest path h (inl e) = inl (e ∙ h)
Touches-one (create p) (create q) rest path h (inr t) = absurd t
Touches-one (create p) (append q cs) rest path h t = absurd h
Touches-one (create p) (show cs) rest path h t = absurd h
Touches-one (create p) (link call) rest path h t = absurd h

Touches-part : (part rest : List Action) (path : List ℕ) → IsPartOfNext part rest → Touches part path → Touches rest path
Touches-part [] rest path h t = absurd t
Touches-part (a ∷ []) [] path h t = absurd h
Touches-part (a ∷ []) (b ∷ rest) path h t = Touches-one a b rest path h t
Touches-part (a ∷ b ∷ more) rest path h t = absurd h

pub Touches-begun : (plan done : List Action) (path : List ℕ) → Begun plan done → Touches done path → Touches plan path
Touches-begun plan done path b t =
    subst (λ xs. Touches xs path) (sym b.plan_is)
    (elim (Touches-split b.front b.part path (subst (λ xs. Touches xs path) b.done_is t)) [
      | inl a ↦ Touches-left b.front b.rest path a
      | inr c ↦ Touches-right b.front b.rest path (Touches-part b.part b.rest path b.part_is c)
    ])

-- a file that the plan doesn't touch is unchanged, however far the plan got
pub untouched-reached : (plan : List Action) (path : List ℕ) (old new : Outside) (status : ℕ) → Reached plan status old new →
    IsTrue new.files.told →
    (Touches plan path → ⊥) → new.files.content path ≡ old.files.content path
untouched-reached plan path old new status r told none =
    ap (λ c. c path) (r.ran.files) ∙ content-untouched r.done old.files.content path
    (λ t. none (Touches-begun plan r.done path r.begun t))

pub untouched : (plan : Content → Plan) (path : List ℕ) (old new : Outside) (status : ℕ) → Ends plan old new status → IsTrue new.files.told →
    (Touches (plan old.files.content).actions path → ⊥) → new.files.content path ≡ old.files.content path
untouched plan path old new status ends told none =
    untouched-reached (plan old.files.content).actions path old new status (ends.part told) told none
