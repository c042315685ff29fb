-- How `session` ends, and what is then printed.
use Rattle.std.proofs.Common.{◌≡◌, ◌⊎◌, ◌==◌, ◌||◌, ◌++◌, ◌∙◌, ℕ, Bool, true, false, List, Some, IsTrue, refl, sym, ap, subst, take, inl, inr}
use Rattle.bar_outside.specs.Code.Children.{Children}
use Rattle.bar_outside.specs.Disk.{Content}
use Rattle.bar_outside.specs.Plan.{Outside, is_stop, no_memory}
use Rattle.bar_outside.specs.Stream.{Stream}
use Rattle.bar_outside.specs.Ends.{Prints, SaysBy}
use Rattle.bar_outside.proofs.Ending.{EndsWith-memory, or-stop}
use Rattle.bar_child_processes.specs.Names.{SessionNames}
use Rattle.bar_child_processes.specs.Outcomes.{code_of}
use Rattle.bar_child_processes.specs.declared.outcome.Outcome.{Outcome}
use Rattle.bar_child_processes.specs.declared.outcome.Outcome.TheVariants.{Done, ChildFailed, OutputFailed, NoMemory}
use Rattle.bar_cli.specs.Line.{is_status_of, session_run}
use Rattle.bar_cli.specs.Printing.{session_may_print}
use Rattle.bar_cli.specs.Session.{SessionEnds, SessionStopped, is_plain_end, line_of_end, session_line, session_plan}

-- the statuses that result from its children
pub outcome-status : (names : SessionNames) (outcome : Outcome) → IsTrue (is_status_of (Some (session_run names)) (code_of outcome))
outcome-status names Done = refl
outcome-status names ChildFailed = refl
outcome-status names OutputFailed = refl
outcome-status names NoMemory = refl

pub outcome-late : (outcome : Outcome) → (code_of outcome == 4) ≡ false
outcome-late Done = refl
outcome-late ChildFailed = refl
outcome-late OutputFailed = refl
outcome-late NoMemory = refl

pub outcome-prints : (outcome : Outcome) → session_may_print (code_of outcome) ≡ true
outcome-prints Done = refl
outcome-prints ChildFailed = refl
outcome-prints OutputFailed = refl
outcome-prints NoMemory = refl

-- memory ran out before anything was done
pub no-session : (names : SessionNames) (old : Outside) (kids : Children) → SessionEnds names old old kids kids 70 no_memory
no-session names old kids = record {
  files = λ told. refl;
  ended = inl (record { ends = EndsWith-memory (session_plan names) old; early = inr (inr refl); out = refl; children = refl });
}

-- ---- its line

plain-four : (status : ℕ) → is_plain_end status ≡ true → status ≡ 4 → ⊥
plain-four status h e = let k : is_plain_end 4 ≡ true = subst (λ n. is_plain_end n ≡ true) e h in cc

plain-memory : (status : ℕ) → is_plain_end status ≡ true → status ≡ 70 → ⊥
plain-memory status h e = let k : is_plain_end 70 ≡ true = subst (λ n. is_plain_end n ≡ true) e h in cc

either-of : (a b : Bool) → IsTrue (a || b) → (a ≡ true) ⊎ (b ≡ true)
either-of true b h = inl refl
either-of false b h = inr h

or-told : (told b : Bool) → told ≡ true → IsTrue (told || b)
or-told told b e = rw e refl

line-late : (names : SessionNames) (content : Content) (status : ℕ) → (status == 4) ≡ false → session_line names content status ≡ line_of_end status
line-late names content status late = rw late refl

module _ (names : SessionNames) (old new : Outside) (kids kids_new : Children) (status : ℕ) (line : List ℕ) where
  stopped-line : SessionStopped names old new kids kids_new status line → (new.files.told ≡ true) ⊎ ((status ≡ 4) → ⊥) →
      line ≡ session_line names old.files.content status
  stopped-line s known = elim s.early [
    | inl three ↦ s.ends.line_is (or-stop new.files.told (is_stop status) (ap is_stop three)) ∙ rw three refl
    | inr (inl four) ↦ elim known [
      | inl told ↦ s.ends.line_is (or-told new.files.told (is_stop status) told) ∙ rw four refl
      | inr other ↦ absurd (other four)
    ]
    | inr (inr seventy) ↦ s.ends.line_is (or-stop new.files.told (is_stop status) (ap is_stop seventy)) ∙ rw seventy refl
  ]

  ended-line : SessionEnds names old new kids kids_new status line → (new.files.told ≡ true) ⊎ ((status ≡ 4) → ⊥) →
      line ≡ session_line names old.files.content status
  ended-line ends known = elim ends.ended [
    | inl stopped ↦ stopped-line stopped known
    | inr goes ↦ goes.line_is ∙ sym (line-late names old.files.content status goes.late)
  ]

  -- what was printed on standard error
  pub session-said : (result : ℕ) (err err_new : Stream) → SessionEnds names old new kids kids_new status line →
      Prints line result err err_new → (result ≡ status) ⊎ (result ≡ 70) → IsTrue (new.files.told || is_plain_end result) →
      SaysBy (session_line names old.files.content) result err err_new
  session-said result err err_new ends prints (inl same) either =
      let known : (new.files.told ≡ true) ⊎ ((status ≡ 4) → ⊥) = elim (either-of new.files.told (is_plain_end result) either) [
        | inl told ↦ inl told
        | inr plain ↦ inr (λ four. plain-four result plain (same ∙ four))
      ] in
      let is : line ≡ session_line names old.files.content result =
      ended-line ends known ∙ ap (session_line names old.files.content) (sym same) in
      record {
        later = prints.later;
        whole = λ other none. prints.whole other none ∙ ap (λ xs. err.bytes ++ xs) is;
        front = λ other. let p = prints.front in (p.0, p.1 ∙ ap (λ xs. err.bytes ++ take p.0 xs) is);
        no_memory = λ other. let p = prints.front in (p.0, result, p.1 ∙ ap (λ xs. err.bytes ++ take p.0 xs) is);
      }
  session-said result err err_new ends prints (inr seventy) either =
      let known : new.files.told ≡ true = elim (either-of new.files.told (is_plain_end result) either) [
        | inl told ↦ told
        | inr plain ↦ absurd (plain-memory result plain seventy)
      ] in
      record {
        later = prints.later;
        whole = λ other. absurd (other seventy);
        front = λ other. absurd (other seventy);
        no_memory = λ is.
            let p = prints.front in (p.0, status, p.1 ∙ ap (λ xs. err.bytes ++ take p.0 xs) (ended-line ends (inl known)));
      }
