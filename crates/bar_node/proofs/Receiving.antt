-- What actions receive from a link.
use Rattle.std.proofs.Common.{◌≡◌, ℕ, ◌+◌, length, Bool, true, false, ◌||◌, List, [], ◌∷◌, ◌++◌, refl, sym, ap, ◌∙◌, subst, append-nil, append_assoc, Option, Some, None, Result, Ok, Err}
use Rattle.std.proofs.Math.Bool.{or-false, or_assoc}
use Rattle.std.specs.List.{flat_map}
use Rattle.bar_wire.specs.Inputs.{Input}
use Rattle.bar_record.specs.Recording.{entry_bytes}
use Rattle.bar_outside.specs.Wire.{Traffic, Wire, Arrival, Tick, Datagram, End, gave}
use Rattle.bar_outside.specs.declared.fault.Fault.{Fault}
use Rattle.bar_outside.specs.Plan.{Outside, Action, LinkCall, Ran, Begun, IsPartOf, IsPartOfNext, shown, traffic_after, traffic_by}
use Rattle.bar_outside.specs.Plan.Action.{read, create, append, show, link}
use Rattle.bar_outside.specs.Plan.LinkCall.{bind, receive, send}
use Rattle.bar_outside.specs.Code.Follows.{Follows}
use Rattle.bar_core.specs.Rules.{Rules, Send}
use Rattle.bar_node.specs.Code.Turns.{turn, turns, node_layout, kept, sent}
use Rattle.bar_node.specs.Code.Effects.{received_by, received_in}
use Rattle.bar_node.specs.Runs.{heard, has_end}

-- ---- quiet actions: the link gives nothing and isn't bound, and nothing is printed

abbrev pub IsQuietCall : LinkCall → Type 0
IsQuietCall (bind to) = ⊥
IsQuietCall (receive None) = Unit {0}
IsQuietCall (receive (Some arrival)) = ⊥
IsQuietCall (send to bytes) = Unit {0}

abbrev pub IsQuiet : Action → Type 0
IsQuiet (read path) = Unit {0}
IsQuiet (create path) = Unit {0}
IsQuiet (append path bytes) = Unit {0}
IsQuiet (show bytes) = ⊥
IsQuiet (link call) = IsQuietCall call

abbrev pub AreQuiet : List Action → Type 0
AreQuiet [] = Unit {0}
AreQuiet (a ∷ acts) = IsQuiet a × AreQuiet acts

pub quiet-both : (xs ys : List Action) → AreQuiet xs → AreQuiet ys → AreQuiet (xs ++ ys)
quiet-both [] ys h k = k
quiet-both (x ∷ xs) ys h k = (h.0, quiet-both xs ys h.1 k)

quiet-front : (xs ys : List Action) → AreQuiet (xs ++ ys) → AreQuiet xs
quiet-front [] ys h = tt
quiet-front (x ∷ xs) ys h = (h.0, quiet-front xs ys h.1)

quiet-rest : (xs ys : List Action) → AreQuiet (xs ++ ys) → AreQuiet ys
quiet-rest [] ys h = h
quiet-rest (x ∷ xs) ys h = quiet-rest xs ys h.1

-- no call of the link is a partial action
pub no-link-part : (call : LinkCall) (b : Action) → IsPartOf (link call) b → ⊥
no-link-part call (read path) h = h
no-link-part call (create path) h = h
no-link-part call (append path bytes) h = h
no-link-part call (show bytes) h = h
no-link-part call (link other) h = h

-- a partial quiet action doesn't print
no-show-part : (bytes : List ℕ) (b : Action) → IsPartOf (show bytes) b → IsQuiet b → ⊥
no-show-part bytes (read path) h k = h
no-show-part bytes (create path) h k = h
no-show-part bytes (append path whole) h k = h
no-show-part bytes (show whole) h k = k
no-show-part bytes (link call) h k = h

quiet-part : (part rest : List Action) → IsPartOfNext part rest → AreQuiet rest → AreQuiet part
quiet-part [] rest h k = tt
quiet-part (a ∷ []) [] h k = absurd h
quiet-part (link call ∷ []) (b ∷ rest) h k = absurd (no-link-part call b h)
quiet-part (read path ∷ []) (b ∷ rest) h k = (tt, tt)
quiet-part (create path ∷ []) (b ∷ rest) h k = (tt, tt)
quiet-part (append path bytes ∷ []) (b ∷ rest) h k = (tt, tt)
quiet-part (show bytes ∷ []) (b ∷ rest) h k = absurd (no-show-part bytes b h k.0)
quiet-part (a ∷ b ∷ more) rest h k = absurd h

-- what was done of quiet actions is quiet
pub quiet-begun : (plan done : List Action) → AreQuiet plan → Begun plan done → AreQuiet done
quiet-begun plan done h b =
    let all = subst AreQuiet b.plan_is h in
    subst AreQuiet (sym b.done_is)
    (quiet-both b.front b.part (quiet-front b.front b.rest all) (quiet-part b.part b.rest b.part_is (quiet-rest b.front b.rest all)))

received-one : (a : Action) → IsQuiet a → received_by a ≡ []
received-one (link (receive None)) h = refl
received-one (link (receive (Some arrival))) h = absurd h
received-one (link (bind to)) h = absurd h
received-one (link (send to bytes)) h = refl
received-one (read path) h = refl
received-one (create path) h = refl
received-one (append path bytes) h = refl
received-one (show bytes) h = absurd h

-- quiet actions receive nothing
pub received-quiet : (acts : List Action) → AreQuiet acts → received_in acts ≡ []
received-quiet [] h = refl
received-quiet (a ∷ acts) h = ap (λ xs. xs ++ received_in acts) (received-one a h.0) ∙ received-quiet acts h.1

-- quiet actions print nothing
pub shown-quiet : (acts : List Action) → AreQuiet acts → shown acts ≡ []
shown-quiet [] h = refl
shown-quiet (link call ∷ acts) h = shown-quiet acts h.1
shown-quiet (read path ∷ acts) h = shown-quiet acts h.1
shown-quiet (create path ∷ acts) h = shown-quiet acts h.1
shown-quiet (append path bytes ∷ acts) h = shown-quiet acts h.1
shown-quiet (show bytes ∷ acts) h = absurd h.0

-- ---- what a link gave is unchanged

pub record SameTaken (old new : Traffic) : Type 0 where
  pub taken : new.taken ≡ old.taken
  pub ended : new.ended ≡ old.ended

same-by : (a : Action) (t : Traffic) → IsQuiet a → SameTaken t (traffic_by a t)
same-by (link (receive None)) t h = record { taken = refl; ended = refl }
same-by (link (receive (Some arrival))) t h = absurd h
same-by (link (bind to)) t h = absurd h
same-by (link (send to bytes)) t h = record { taken = refl; ended = refl }
same-by (read path) t h = record { taken = refl; ended = refl }
same-by (create path) t h = record { taken = refl; ended = refl }
same-by (append path bytes) t h = record { taken = refl; ended = refl }
same-by (show bytes) t h = absurd h

same-after : (acts : List Action) (t : Traffic) → AreQuiet acts → SameTaken t (traffic_after acts t)
same-after [] t h = record { taken = refl; ended = refl }
same-after (a ∷ acts) t h =
    let one = same-by a t h.0 in
    let rest = same-after acts (traffic_by a t) h.1 in
    record { taken = rest.taken ∙ one.taken; ended = rest.ended ∙ one.ended }

same-ran : (done : List Action) (old new : Outside) → AreQuiet done → Ran done old new →
    SameTaken old.wire.traffic new.wire.traffic
same-ran done old new h ran = subst (SameTaken old.wire.traffic) (sym ran.wire) (same-after done old.wire.traffic h)

-- the same for a plan that receives nothing, wherever it was stopped
pub same-taken : {T : Type 0} (plan : List Action) (old new : Outside) (q : Result T Fault) → AreQuiet plan →
    Follows plan old new q → SameTaken old.wire.traffic new.wire.traffic
same-taken plan old new (Ok y) h f = same-ran plan old new h f.done
same-taken plan old new (Err fault) h f =
    same-ran f.part.done old new (quiet-begun plan f.part.done h f.part.begun) f.part.ran

-- ---- the turns of a node receive nothing

pub quiet-kept : (path : Option (List ℕ)) (bytes : List ℕ) → AreQuiet (kept path bytes)
quiet-kept None bytes = tt
quiet-kept (Some path) bytes = (tt, tt)

quiet-plays : (path : Option (List ℕ)) (contents : List (List ℕ)) → AreQuiet (flat_map (kept path) contents)
quiet-plays path [] = tt
quiet-plays path (x ∷ xs) = quiet-both (kept path x) (flat_map (kept path) xs) (quiet-kept path x) (quiet-plays path xs)

quiet-sends : (number : ℕ) (sends : List Send) → AreQuiet (flat_map (sent number) sends)
quiet-sends number [] = tt
quiet-sends number (x ∷ xs) = (tt, quiet-sends number xs)

quiet-turn : (recording played : Option (List ℕ)) (r : Rules) (before : List Input) (input : Input) →
    AreQuiet (turn (node_layout recording played) r before input)
quiet-turn recording played r before input =
    quiet-both (kept recording (entry_bytes input)) _ (quiet-kept recording (entry_bytes input))
    (quiet-both (flat_map (kept played) (r.contents before input)) _ (quiet-plays played (r.contents before input))
    (quiet-sends (length before + 1) (r.sends before input)))

pub quiet-turns : (recording played : Option (List ℕ)) (r : Rules) (before inputs : List Input) →
    AreQuiet (turns (node_layout recording played) r before inputs)
quiet-turns recording played r before [] = tt
quiet-turns recording played r before (x ∷ xs) =
    quiet-both (turn (node_layout recording played) r before x) _ (quiet-turn recording played r before x)
    (quiet-turns recording played r (before ++ x ∷ []) xs)

-- ---- what a link gave

-- a link gave these arrivals
pub record Heard (given : List Arrival) (old new : Wire) : Type 0 where
  pub taken : new.traffic.taken ≡ old.traffic.taken ++ heard given
  pub ended : new.traffic.ended ≡ (old.traffic.ended || has_end given)

pub heard-none : (wire : Wire) → Heard [] wire wire
heard-none wire = record { taken = sym (append-nil wire.traffic.taken); ended = sym (or-false wire.traffic.ended) }

pub heard-still : (given : List Arrival) (old mid new : Wire) → Heard given old mid → SameTaken mid.traffic new.traffic →
    Heard given old new
heard-still given old mid new h s = record { taken = s.taken ∙ h.taken; ended = s.ended ∙ h.ended }

heard-append : (xs ys : List Arrival) → heard (xs ++ ys) ≡ heard xs ++ heard ys
heard-append [] ys = refl
heard-append (Tick ∷ xs) ys = ap (λ rest. Tick ∷ rest) (heard-append xs ys)
heard-append (Datagram bytes ∷ xs) ys = ap (λ rest. Datagram bytes ∷ rest) (heard-append xs ys)
heard-append (End ∷ xs) ys = heard-append xs ys

pub has_end-append : (xs ys : List Arrival) → has_end (xs ++ ys) ≡ (has_end xs || has_end ys)
has_end-append [] ys = refl
has_end-append (Tick ∷ xs) ys = has_end-append xs ys
has_end-append (Datagram bytes ∷ xs) ys = has_end-append xs ys
has_end-append (End ∷ xs) ys = refl

taken-gave : (a : Arrival) (t : Traffic) → (gave a t).taken ≡ t.taken ++ heard (a ∷ [])
taken-gave Tick t = refl
taken-gave (Datagram bytes) t = refl
taken-gave End t = sym (append-nil t.taken)

or-true : (b : Bool) → true ≡ (b || true)
or-true true = refl
or-true false = refl

ended-gave : (a : Arrival) (t : Traffic) → (gave a t).ended ≡ (t.ended || has_end (a ∷ []))
ended-gave Tick t = sym (or-false t.ended)
ended-gave (Datagram bytes) t = sym (or-false t.ended)
ended-gave End t = or-true t.ended

-- the link gave one more arrival
pub heard-more : {S : Type 0} (a : Arrival) (given : List Arrival) (before : Wire) (old new : Outside) (y : S) →
    Heard given before old.wire → Follows (link (receive (Some a)) ∷ []) old new (Ok y) → Heard (given ++ a ∷ []) before new.wire
heard-more a given before old new y h f = record {
  taken =
      ap (λ (t : Traffic). t.taken) f.done.wire
      ∙ taken-gave a old.wire.traffic
      ∙ ap (λ xs. xs ++ heard (a ∷ [])) h.taken
      ∙ append_assoc before.traffic.taken (heard given) (heard (a ∷ []))
      ∙ ap (λ xs. before.traffic.taken ++ xs) (sym (heard-append given (a ∷ [])));
  ended =
      ap (λ (t : Traffic). t.ended) f.done.wire
      ∙ ended-gave a old.wire.traffic
      ∙ ap (λ b. b || has_end (a ∷ [])) h.ended
      ∙ or_assoc before.traffic.ended (has_end given) (has_end (a ∷ []))
      ∙ ap (λ b. before.traffic.ended || b) (sym (has_end-append given (a ∷ [])));
}
