-- Plans without a call of the link.
use Rattle.std.proofs.Common.{◌≡◌, ◌⊎◌, ◌==◌, ◌||◌, ℕ, Bool, true, false, List, [], ◌∷◌, ◌++◌, Option, None, Some, Result, Ok, Err, IsTrue, refl, sym, ◌∙◌, inl, inr, map}
use Rattle.std.proofs.lemmas.Bool.{cases_Bool, eqb-true}
use Rattle.bar_outside.specs.Code.Causes.{Rose}
use Rattle.bar_outside.specs.Disk.{Content, readable}
use Rattle.bar_outside.specs.Wire.{Traffic}
use Rattle.bar_outside.specs.Plan.{Outside, Action, Plan, Begun, Reached, IsLinkNext, IsPartOf, IsPartOfNext, accepting, is_stop, reading, read_then, traffic_after}
use Rattle.bar_outside.specs.Plan.Action.{read, create, append, show, link}
use Rattle.bar_outside.specs.Ends.{Ends, SameTraffic}
use Rattle.bar_outside.proofs.Following.{true-not_false}

-- none of the actions is a call of the link
abbrev pub IsUnlinked : List Action → Type 0
IsUnlinked [] = Unit {0}
IsUnlinked (read path ∷ others) = IsUnlinked others
IsUnlinked (create path ∷ others) = IsUnlinked others
IsUnlinked (append path bytes ∷ others) = IsUnlinked others
IsUnlinked (show bytes ∷ others) = IsUnlinked others
IsUnlinked (link call ∷ others) = ⊥

pub unlinked-append : (xs ys : List Action) → IsUnlinked xs → IsUnlinked ys → IsUnlinked (xs ++ ys)
unlinked-append [] ys h k = k
unlinked-append (read path ∷ others) ys h k = unlinked-append others ys h k
unlinked-append (create path ∷ others) ys h k = unlinked-append others ys h k
unlinked-append (append path bytes ∷ others) ys h k = unlinked-append others ys h k
unlinked-append (show bytes ∷ others) ys h k = unlinked-append others ys h k
unlinked-append (link call ∷ others) ys h k = h

unlinked-front : (xs ys : List Action) → IsUnlinked (xs ++ ys) → IsUnlinked xs
unlinked-front [] ys h = tt
unlinked-front (read path ∷ others) ys h = unlinked-front others ys h
unlinked-front (create path ∷ others) ys h = unlinked-front others ys h
unlinked-front (append path bytes ∷ others) ys h = unlinked-front others ys h
unlinked-front (show bytes ∷ others) ys h = unlinked-front others ys h
unlinked-front (link call ∷ others) ys h = h

unlinked-rest : (xs ys : List Action) → IsUnlinked (xs ++ ys) → IsUnlinked ys
unlinked-rest [] ys h = h
unlinked-rest (read path ∷ others) ys h = unlinked-rest others ys h
unlinked-rest (create path ∷ others) ys h = unlinked-rest others ys h
unlinked-rest (append path bytes ∷ others) ys h = unlinked-rest others ys h
unlinked-rest (show bytes ∷ others) ys h = unlinked-rest others ys h
unlinked-rest (link call ∷ others) ys h = absurd h

pub unlinked-appends : (path : List ℕ) (pieces : List (List ℕ)) → IsUnlinked (map (append path) pieces)
unlinked-appends path [] = tt
unlinked-appends path (x ∷ xs) = unlinked-appends path xs

pub unlinked-shows : (lines : List (List ℕ)) → IsUnlinked (map show lines)
unlinked-shows [] = tt
unlinked-shows (x ∷ xs) = unlinked-shows xs

-- ---- plans

pub unlinked-reading : (path : List ℕ) (others : List ℕ → Content → Plan) (content : Content) →
    ((bytes : List ℕ) → IsUnlinked (others bytes content).actions) → IsUnlinked (reading path others content).actions
unlinked-reading path others content h = by_bytes (readable content path)
  where
    by_bytes : (o : Option (List ℕ)) → IsUnlinked (read_then path others content o).actions
    by_bytes None = tt
    by_bytes (Some bytes) = h bytes

pub unlinked-accepting : {A E : Type 0} (r : Result A E) (others : A → Content → Plan) (refused : E → Content → Plan) (content : Content) →
    ((meant : A) → IsUnlinked (others meant content).actions) → ((fault : E) → IsUnlinked (refused fault content).actions) →
    IsUnlinked (accepting r others refused content).actions
unlinked-accepting (Ok meant) others refused content h k = h meant
unlinked-accepting (Err fault) others refused content h k = k fault

-- ---- what was done of them

traffic-same : (acts : List Action) (traffic : Traffic) → IsUnlinked acts → traffic_after acts traffic ≡ traffic
traffic-same [] traffic h = refl
traffic-same (read path ∷ others) traffic h = traffic-same others traffic h
traffic-same (create path ∷ others) traffic h = traffic-same others traffic h
traffic-same (append path bytes ∷ others) traffic h = traffic-same others traffic h
traffic-same (show bytes ∷ others) traffic h = traffic-same others traffic h
traffic-same (link call ∷ others) traffic h = absurd h

-- no partial action is a call of the link
part-unlinked : (part whole : Action) → IsPartOf part whole → IsUnlinked (part ∷ [])
part-unlinked (read path) whole h = tt
part-unlinked (create path) whole h = tt
part-unlinked (append path bytes) whole h = tt
part-unlinked (show bytes) whole h = tt
part-unlinked (link call) (read path) h = h
part-unlinked (link call) (create path) h = h
part-unlinked (link call) (append path bytes) h = h
part-unlinked (link call) (show bytes) h = h
part-unlinked (link call) (link other) h = h

next-unlinked : (part rest : List Action) → IsPartOfNext part rest → IsUnlinked part
next-unlinked [] rest h = tt
next-unlinked (x ∷ []) [] h = absurd h
next-unlinked (x ∷ []) (y ∷ ys) h = part-unlinked x y h
next-unlinked (x ∷ z ∷ zs) rest h = absurd h

begun-unlinked : (plan done : List Action) → Begun plan done → IsUnlinked plan → IsUnlinked done
begun-unlinked plan done b h =
    rw b.done_is (unlinked-append b.front b.part (unlinked-front b.front b.rest (rw b.plan_is at h))
    (next-unlinked b.part b.rest b.part_is))

no-call : (rest : List Action) → IsUnlinked rest → IsLinkNext rest → ⊥
no-call [] h next = next
no-call (read path ∷ others) h next = next
no-call (create path ∷ others) h next = next
no-call (append path bytes ∷ others) h next = next
no-call (show bytes ∷ others) h next = next
no-call (link call ∷ others) h next = h

-- the link did nothing
pub same-traffic : (plan : List Action) (status : ℕ) (old new : Outside) → IsUnlinked plan → Reached plan status old new →
    SameTraffic old new
same-traffic plan status old new h r =
    r.ran.wire ∙ traffic-same r.done old.wire.traffic (begun-unlinked plan r.done r.begun h)

-- no fault of the link occurred
pub no-link : (plan : List Action) (status : ℕ) (old new : Outside) → IsUnlinked plan → Reached plan status old new → status ≡ 6 → ⊥
no-link plan status old new h r e = no-call r.begun.rest (unlinked-rest r.begun.front r.begun.rest (rw r.begun.plan_is at h)) (r.at_link e)

-- ---- a stop has a cause

pub stop-cases : (status : ℕ) → is_stop status ≡ true → (status ≡ 3) ⊎ ((status ≡ 6) ⊎ ((status ≡ 7) ⊎ (status ≡ 70)))
stop-cases status h = by_tests (status == 3) (status == 6) (status == 7) (status == 70) refl refl refl refl h
  where
    by_tests : (a b c d : Bool) → (status == 3) ≡ a → (status == 6) ≡ b → (status == 7) ≡ c → (status == 70) ≡ d →
        (a || b || c || d) ≡ true →
        (status ≡ 3) ⊎ ((status ≡ 6) ⊎ ((status ≡ 7) ⊎ (status ≡ 70)))
    by_tests true b c d p q r s h = inl (eqb-true status 3 p)
    by_tests false true c d p q r s h = inr (inl (eqb-true status 6 q))
    by_tests false false true d p q r s h = inr (inr (inl (eqb-true status 7 r)))
    by_tests false false false true p q r s h = inr (inr (inr (eqb-true status 70 s)))
    by_tests false false false false p q r s h = absurd (true-not_false (sym h))

-- if no fault count rose, the status is the plan's, unless memory ran out
pub done-unlinked : (plan : Content → Plan) (old new : Outside) (status : ℕ) → Ends plan old new status → IsTrue new.files.told →
    IsUnlinked (plan old.files.content).actions → (Rose old.files.faults new.files.faults → ⊥) → (Rose old.out.faults new.out.faults → ⊥) →
    (status ≡ (plan old.files.content).status) ⊎ (status ≡ 70)
done-unlinked plan old new status ends told unlinked no_file no_output =
    elim (cases_Bool (is_stop status)) [
      | inr go ↦ inl (ends.carried told go).is
      | inl stop ↦ elim (stop-cases status stop) [
        | inl file ↦ absurd (no_file (ends.file_rose file))
        | inr more ↦ elim more [
          | inl wire ↦ absurd (no-link (plan old.files.content).actions status old new unlinked (ends.part told) wire)
          | inr others ↦ elim others [ inl output ↦ absurd (no_output (ends.output_rose output)) | inr memory ↦ inr memory ]
        ]
      ]
    ]
