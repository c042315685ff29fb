-- Giving out contents and datagrams, one after another.
use Rattle.std.proofs.Common.{◌≡◌, ◌≤◌, ℕ, ◌+◌, List, [], ◌∷◌, ◌++◌, length, take, refl, ap, ◌∙◌, arith, length-append, length-take}
use Rattle.std.specs.List.{concat}
use Rattle.std.proofs.lemmas.List.Folds.{concat-append}
use Rattle.bar_wire.specs.Inputs.{Input}
use Rattle.bar_core.specs.Rules.{Send}
use Rattle.bar_core.specs.Code.Face.{Face, Keeps}
use Rattle.bar_node.specs.Code.Counting.{capped}
use Rattle.bar_node.proofs.Each.{SoFar}

-- some contents were played
pub record Playing (was now : List Input → Type 0) (owed owes : List Input → List Send → Type 0) (start at : Face) (count : ℕ)
    (IsDone : List (List ℕ) → Type 0) : Type 0 where
  pub keeps : Keeps was now start at
  pub left : at.left ≡ start.left
  pub still : (inputs : List Input) (sends : List Send) → owed inputs sends → owes inputs sends
  pub so_far : SoFar start.plays at.plays IsDone
  pub counted : count ≡ capped (length (concat so_far.done))

-- some of these datagrams were given out, and the others are left to be given out
pub record Sent (Owes : List Send → Type 0) (sends : List Send) (count : ℕ) (IsDone : List Send → Type 0) : Type 0 where
  pub left : List Send
  pub owed : Owes left
  pub so_far : SoFar sends left IsDone
  pub counted : count ≡ capped (length so_far.done)

-- some datagrams were given out, for any list of datagrams that were to be given out
pub record Sending (was now : List Input → Type 0) (owed owes : List Input → List Send → Type 0) (start at : Face) (count : ℕ)
    (IsDone : List Send → Type 0) : Type 0 where
  pub keeps : Keeps was now start at
  pub plays : at.plays ≡ start.plays
  pub of_each : (inputs : List Input) (sends : List Send) → was inputs → owed inputs sends → Sent (owes inputs) sends count IsDone

pub keeps-same : (was : List Input → Type 0) (face : Face) → Keeps was was face face
keeps-same was face = record { rules = refl; stands = λ before h. h }

pub keeps-on : (was mid now : List Input → Type 0) (old at new : Face) → Keeps was mid old at → Keeps mid now at new → Keeps was now old new
keeps-on was mid now old at new first second = record {
  rules = second.rules ∙ first.rules;
  stands = λ before h. second.stands before (first.stands before h);
}

pub count-content : (done : List (List ℕ)) (buf : List ℕ) (len count : ℕ) → len ≤ length buf → count ≡ capped (length (concat done)) →
    capped (count + len) ≡ capped (length (concat (done ++ take len buf ∷ [])))
count-content done buf len count fits e =
    let n : length (concat (done ++ take len buf ∷ [])) ≡ length (concat done) + len =
    ap length (concat-append done (take len buf ∷ [])) ∙ simp (length-append, length-take) (omega arith) in
    omega arith

pub count-send : (done : List Send) (next : Send) (count : ℕ) → count ≡ capped (length done) →
    capped (count + 1) ≡ capped (length (done ++ next ∷ []))
count-send done next count e = let n = length-append done (next ∷ []) in omega arith
