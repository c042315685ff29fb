-- Consequences for a list of actions whose kinds are known.
use Rattle.std.proofs.Common.{◌≡◌, ◌||◌, ℕ, ◌+◌, List, [], ◌∷◌, ◌++◌, None, Some, refl, sym, ap, ◌∙◌, subst, inl, inr, take, length, min, append-nil}
use Rattle.std.proofs.Math.Seq.{take-append-add}
use Rattle.std.proofs.Math.Bool.{or-false, or-true}
use Rattle.std.specs.List.{AllByRecursion}
use Rattle.bar_outside.specs.Disk.{Content}
use Rattle.bar_outside.specs.Wire.{Datagram, End, Tick, Traffic}
use Rattle.bar_outside.specs.Plan.{Action, Begun, IsPartOf, IsPartOfNext, LinkCall, Touches, content_after, shown, traffic_after}
use Rattle.bar_outside.specs.Plan.Action.{append, create, link, read, show}
use Rattle.bar_outside.specs.Plan.LinkCall.{bind, receive, send}
use Rattle.bar_outside.proofs.ActionLists.{shown-append}
use Rattle.bar_outside.proofs.Appends.{take-more}
use Rattle.bar_findings.proofs.Lists.{all-front, all-rest}
use Rattle.bar_laws.proofs.Logs.{all-both}
use Rattle.bar_node.specs.Code.Effects.{received_in}
use Rattle.bar_node.specs.Runs.{has_end}

-- The action reads, writes a file with a name in P, makes a call of the link in C, or prints, if S allows printing.
abbrev pub IsAmong : (List ℕ → Type 0) → (LinkCall → Type 0) → Type 0 → Action → Type 0
IsAmong P C S (read path) = Unit {0}
IsAmong P C S (create path) = P path
IsAmong P C S (append path bytes) = P path
IsAmong P C S (show bytes) = S
IsAmong P C S (link call) = C call

-- no file, and no call of the link
abbrev pub NoName : List ℕ → Type 0
NoName path = ⊥

abbrev pub NoCall : LinkCall → Type 0
NoCall call = ⊥

-- any call but a binding
abbrev pub IsUnbinding : LinkCall → Type 0
IsUnbinding (bind to) = ⊥
IsUnbinding (receive came) = Unit {0}
IsUnbinding (send to bytes) = Unit {0}

-- each action is of one of these kinds
abbrev pub AreAmong : (List ℕ → Type 0) → (LinkCall → Type 0) → Type 0 → List Action → Type 0
AreAmong P C S acts = AllByRecursion (IsAmong P C S) acts

-- ---- a partial action has the kind of the whole

module _ (P : List ℕ → Type 0) (C : LinkCall → Type 0) (S : Type 0) where
  among-part : (a b : Action) → IsPartOf a b → IsAmong P C S b → IsAmong P C S a
  among-part (create p) (create q) h k = subst P (sym h) k
  among-part (create p) (read q) h k = absurd h
  among-part (create p) (append q cs) h k = absurd h
  among-part (create p) (show cs) h k = absurd h
  among-part (create p) (link call) h k = absurd h
  among-part (append p bs) (append q cs) h k = subst P (sym h.0) k
  among-part (append p bs) (read q) h k = absurd h
  among-part (append p bs) (create q) h k = absurd h
  among-part (append p bs) (show cs) h k = absurd h
  among-part (append p bs) (link call) h k = absurd h
  among-part (show bs) (show cs) h k = k
  among-part (show bs) (read q) h k = absurd h
  among-part (show bs) (create q) h k = absurd h
  among-part (show bs) (append q cs) h k = absurd h
  among-part (show bs) (link call) h k = absurd h
  among-part (read p) b h k = tt
  among-part (link call) (read q) h k = absurd h
  among-part (link call) (create q) h k = absurd h
  among-part (link call) (append q cs) h k = absurd h
  among-part (link call) (show cs) h k = absurd h
  among-part (link call) (link other) h k = absurd h

  among-next : (part rest : List Action) → IsPartOfNext part rest → AreAmong P C S rest → AreAmong P C S part
  among-next [] rest h k = tt
  among-next (a ∷ []) [] h k = absurd h
  among-next (a ∷ []) (b ∷ others) h k = (among-part a b h k.0, tt)
  among-next (a ∷ b ∷ more) rest h k = absurd h

  -- what was done of a plan has the plan's kinds
  pub among-begun : (plan done : List Action) → Begun plan done → AreAmong P C S plan → AreAmong P C S done
  among-begun plan done b k =
      let all = subst (AreAmong P C S) b.plan_is k in
      subst (AreAmong P C S) (sym b.done_is)
      (all-both (IsAmong P C S) b.front b.part (all-front (IsAmong P C S) b.front b.rest all)
      (among-next b.part b.rest b.part_is (all-rest (IsAmong P C S) b.front b.rest all)))

  -- they touch only files with names in P
  pub among-touches : (acts : List Action) (path : List ℕ) → AreAmong P C S acts → Touches acts path → P path
  among-touches [] path k t = absurd t
  among-touches (create name ∷ others) path k (inl e) = subst P (sym e) k.0
  among-touches (create name ∷ others) path k (inr t) = among-touches others path k.1 t
  among-touches (append name bytes ∷ others) path k (inl e) = subst P (sym e) k.0
  among-touches (append name bytes ∷ others) path k (inr t) = among-touches others path k.1 t
  among-touches (read name ∷ others) path k t = among-touches others path k.1 t
  among-touches (show bytes ∷ others) path k t = among-touches others path k.1 t
  among-touches (link call ∷ others) path k t = among-touches others path k.1 t

-- if no action may print, nothing is printed
pub among-silent : (P : List ℕ → Type 0) (C : LinkCall → Type 0) (acts : List Action) → AreAmong P C ⊥ acts → shown acts ≡ []
among-silent P C [] k = refl
among-silent P C (read name ∷ others) k = among-silent P C others k.1
among-silent P C (create name ∷ others) k = among-silent P C others k.1
among-silent P C (append name bytes ∷ others) k = among-silent P C others k.1
among-silent P C (link call ∷ others) k = among-silent P C others k.1
among-silent P C (show bytes ∷ others) k = absurd k.0

-- nothing is done over the link
pub among-unlinked : (P : List ℕ → Type 0) (S : Type 0) (acts : List Action) (t : Traffic) → AreAmong P NoCall S acts →
    traffic_after acts t ≡ t
among-unlinked P S [] t k = refl
among-unlinked P S (read name ∷ others) t k = among-unlinked P S others t k.1
among-unlinked P S (create name ∷ others) t k = among-unlinked P S others t k.1
among-unlinked P S (append name bytes ∷ others) t k = among-unlinked P S others t k.1
among-unlinked P S (show bytes ∷ others) t k = among-unlinked P S others t k.1
among-unlinked P S (link call ∷ others) t k = absurd k.0

-- nothing is received
pub among-unreceived : (P : List ℕ → Type 0) (S : Type 0) (acts : List Action) → AreAmong P NoCall S acts → received_in acts ≡ []
among-unreceived P S [] k = refl
among-unreceived P S (read name ∷ others) k = among-unreceived P S others k.1
among-unreceived P S (create name ∷ others) k = among-unreceived P S others k.1
among-unreceived P S (append name bytes ∷ others) k = among-unreceived P S others k.1
among-unreceived P S (show bytes ∷ others) k = among-unreceived P S others k.1
among-unreceived P S (link call ∷ others) k = absurd k.0

-- a link that isn't bound again reports its end if it did before, or if the end is received
pub among-ended : (P : List ℕ → Type 0) (S : Type 0) (acts : List Action) (t : Traffic) → AreAmong P IsUnbinding S acts →
    (traffic_after acts t).ended ≡ (t.ended || has_end (received_in acts))
among-ended P S [] t k = sym (or-false t.ended)
among-ended P S (read name ∷ others) t k = among-ended P S others t k.1
among-ended P S (create name ∷ others) t k = among-ended P S others t k.1
among-ended P S (append name bytes ∷ others) t k = among-ended P S others t k.1
among-ended P S (show bytes ∷ others) t k = among-ended P S others t k.1
among-ended P S (link (bind to) ∷ others) t k = absurd k.0
among-ended P S (link (send to bytes) ∷ others) t k = among-ended P S others _ k.1
among-ended P S (link (receive None) ∷ others) t k = among-ended P S others t k.1
among-ended P S (link (receive (Some Tick)) ∷ others) t k = among-ended P S others _ k.1
among-ended P S (link (receive (Some (Datagram bytes))) ∷ others) t k = among-ended P S others _ k.1
among-ended P S (link (receive (Some End)) ∷ others) t k = among-ended P S others _ k.1 ∙ sym (or-true t.ended)

-- the binding of the link is unchanged
pub among-bound : (P : List ℕ → Type 0) (S : Type 0) (acts : List Action) (t : Traffic) → AreAmong P IsUnbinding S acts →
    (traffic_after acts t).bound ≡ t.bound
among-bound P S [] t k = refl
among-bound P S (read name ∷ others) t k = among-bound P S others t k.1
among-bound P S (create name ∷ others) t k = among-bound P S others t k.1
among-bound P S (append name bytes ∷ others) t k = among-bound P S others t k.1
among-bound P S (show bytes ∷ others) t k = among-bound P S others t k.1
among-bound P S (link (bind to) ∷ others) t k = absurd k.0
among-bound P S (link (send to bytes) ∷ others) t k = among-bound P S others _ k.1
among-bound P S (link (receive None) ∷ others) t k = among-bound P S others t k.1
among-bound P S (link (receive (Some Tick)) ∷ others) t k = among-bound P S others _ k.1
among-bound P S (link (receive (Some (Datagram bytes))) ∷ others) t k = among-bound P S others _ k.1
among-bound P S (link (receive (Some End)) ∷ others) t k = among-bound P S others _ k.1

-- no file is changed
pub among-unwritten : (C : LinkCall → Type 0) (S : Type 0) (acts : List Action) (content : Content) → AreAmong NoName C S acts →
    content_after acts content ≡ content
among-unwritten C S [] content k = refl
among-unwritten C S (read name ∷ others) content k = among-unwritten C S others content k.1
among-unwritten C S (show bytes ∷ others) content k = among-unwritten C S others content k.1
among-unwritten C S (link call ∷ others) content k = among-unwritten C S others content k.1
among-unwritten C S (create name ∷ others) content k = absurd k.0
among-unwritten C S (append name bytes ∷ others) content k = absurd k.0

-- ---- a plan that was done in part prints a prefix of what the whole plan prints

shown-next : (part rest : List Action) → IsPartOfNext part rest → (k : ℕ) × (shown part ≡ take k (shown rest))
shown-next [] rest h = (0, refl)
shown-next (a ∷ []) [] h = absurd h
shown-next (show bytes ∷ []) (show whole ∷ others) h =
    (min h.0 (length whole), append-nil bytes ∙ h.1 ∙ sym (take-more h.0 whole (shown others)))
shown-next (show bytes ∷ []) (read q ∷ others) h = absurd h
shown-next (show bytes ∷ []) (create q ∷ others) h = absurd h
shown-next (show bytes ∷ []) (append q cs ∷ others) h = absurd h
shown-next (show bytes ∷ []) (link call ∷ others) h = absurd h
shown-next (read p ∷ []) (b ∷ others) h = (0, refl)
shown-next (create p ∷ []) (b ∷ others) h = (0, refl)
shown-next (append p bytes ∷ []) (b ∷ others) h = (0, refl)
shown-next (link call ∷ []) (b ∷ others) h = (0, refl)
shown-next (a ∷ b ∷ more) rest h = absurd h

pub shown-front : (plan done : List Action) → Begun plan done → (k : ℕ) × (shown done ≡ take k (shown plan))
shown-front plan done b =
    let n = shown-next b.part b.rest b.part_is in (
      length (shown b.front) + n.0,
      ap shown b.done_is ∙ shown-append b.front b.part ∙ ap (λ bytes. shown b.front ++ bytes) n.1
          ∙ sym (take-append-add (shown b.front) (shown b.rest) n.0)
          ∙ ap (take (length (shown b.front) + n.0)) (sym (ap shown b.plan_is ∙ shown-append b.front b.rest)),
    )
