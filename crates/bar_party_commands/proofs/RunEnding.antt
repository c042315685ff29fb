-- How commands end that run over a link.
use Rattle.std.proofs.Common.{◌≡◌, ◌⊎◌, ℕ, List, [], ◌∷◌, ◌∙◌, append-nil, Vec, Result, Ok, Err, IsTrue, false, if◌then◌else◌, refl, sym, ap, subst, inl, inr}
use Rattle.std.proofs.Common.{arith}
use Rattle.std.specs.declared.alloc.Global.{Global}
use Rattle.bar_outside.specs.Disk.{Content, CreatedFiles, Disk, Reads}
use Rattle.bar_outside.specs.Stream.{Stream}
use Rattle.bar_outside.specs.declared.files.FileFault.{FileFault}
use Rattle.bar_outside.specs.declared.files.FileFault.TheVariants as file
use Rattle.bar_outside.specs.declared.fault.Fault.{Fault}
use Rattle.bar_outside.specs.declared.fault.Fault.TheVariants.{File, Link, NoMemory, Output}
use Rattle.bar_outside.specs.Ends.{EndsWith}
use Rattle.bar_outside.specs.Code.Follows.{IsReliable}
use Rattle.bar_outside.specs.Code.Faults.{code_after, code_of_fault, fault_of_file, line_after, line_of_fault}
use Rattle.bar_outside.specs.Plan.{Action, CanRun, Outside, Plan, Ran, before, doing, is_stop, line_at, no_memory, outside, read_then}
use Rattle.bar_outside.specs.Plan.Action.{read}
use Rattle.bar_outside.specs.Stages.{Stages, accepts, plan_by, refuses, stage}
use Rattle.bar_outside.specs.Wire.{Arrival, Wire}
use Rattle.bar_outside.proofs.Ending.{EndsWith-doing, EndsWith-unread, no_stop}
use Rattle.bar_outside.proofs.StageEnds.{EndsWith-stage, EndsWith-stage_memory, EndsWith-stage_refused}
use Rattle.bar_outside.proofs.Following.{later-files}
use Rattle.bar_core.specs.Rules.{Rules}
use Rattle.bar_node.proofs.Doing.{none-more}
use Rattle.bar_party_commands.specs.Running.{HasReached, RunEndsWith, RunFollows, status_of}
use Rattle.bar_party_commands.proofs.Reaching.{nothing-reached, reached-behind}
use Rattle.bar_party_commands.proofs.RunFollowing.{heard-nothing}

-- a fault other than running out of memory
pub other-fault : {E : Type 0} (fault memory : E) (P : Type 0) → (fault ≡ memory) ⊎ P → (fault ≡ memory → ⊥) → P
other-fault fault memory P (inl e) other = absurd (other e)
other-fault fault memory P (inr p) other = p

-- the run wasn't begun
unbegun : (plan : List Arrival → Content → Plan) (old mid : Disk) (out : Stream) (wire : Wire) (status : ℕ) (line : List ℕ) →
    mid.content ≡ old.content → (status ≡ 6 → ⊥) → EndsWith (plan []) (outside old out wire) (outside mid out wire) status line →
    RunEndsWith plan (outside old out wire) (outside mid out wire) status line
unbegun plan old mid out wire status line same other h = record {
  given = [];
  heard = heard-nothing (outside old out wire) (outside mid out wire) refl;
  ends = h;
  reached = λ told.
      nothing-reached (plan [] old.content).actions _ _
      (record { files = same; out = sym (append-nil out.bytes); wire = refl });
  asked = λ told front next rest e. absurd (none-more front next rest e);
  answers = λ reliable. other;
}

-- a failed read isn't a fault of the link
no-link-read : (cause : FileFault) → code_of_fault (fault_of_file cause) ≡ 6 → ⊥
no-link-read file.Failed e = absurd (omega arith)
no-link-read file.NoMemory e = absurd (omega arith)

-- a read doesn't change whether the files are reliable
still-reliable : (path : List ℕ) (old mid : Disk) (out : Stream) (wire : Wire) (result : Result (Vec ℕ Global) FileFault) →
    Reads path old mid result → IsReliable (outside old out wire) → IsReliable (outside mid out wire)
still-reliable path old mid out wire result reads r = record {
  files = subst IsTrue (sym reads.call.reliable) r.files;
  out = r.out;
  wire = r.wire;
}

-- ---- a file that is read, and a rest that depends on its meaning

module _ {A E : Type 0} (path : List ℕ) (meaning : List ℕ → Result A E) (status : ℕ) (line : E → List ℕ)
    (others : List Arrival → A → Stages) (old mid : Disk) (out : Stream) (wire : Wire) where
  abbrev by-meaning : List Arrival → Result A E → Content → Plan
  by-meaning given r = plan_by (accepts r (others given) (λ fault. refuses status (line fault)))

  abbrev plan : List Arrival → Content → Plan
  plan given = plan_by (stage path meaning status line (others given))

  abbrev EndsSo : Outside → ℕ → List ℕ → Type 0
  EndsSo new code said = RunEndsWith plan (outside old out wire) new code said

  abbrev was : Outside
  was = outside mid out wire

  -- the read failed
  pub unread : (cause : FileFault) → Reads path old mid (Err cause) →
      EndsSo was (code_of_fault (fault_of_file cause)) (line_of_fault (fault_of_file cause))
  unread cause reads =
      unbegun plan old mid out wire _ _ reads.same (no-link-read cause)
      (EndsWith-unread path (λ bytes. by-meaning [] (meaning bytes)) old mid was cause reads)

  module _ (bytes : Vec ℕ Global) (reads : Reads path old mid (Ok bytes)) where
    -- memory ran out
    pub unmeant : EndsSo was 70 no_memory
    unmeant =
        unbegun plan old mid out wire 70 no_memory reads.same (λ e. absurd (omega arith))
        (EndsWith-stage_memory path meaning status line (others []) old mid was bytes reads)

    -- what was read is refused
    pub refused-so : (fault : E) → meaning bytes.items ≡ Err fault → is_stop status ≡ false → EndsSo was status (line fault)
    refused-so fault e go =
        unbegun plan old mid out wire status (line fault) reads.same (no_stop 6 refl status go)
        (EndsWith-stage_refused path meaning status line (others []) old mid was bytes reads fault go e)

    -- the rest of the plan if it is accepted
    plan-is : (meant : A) → meaning bytes.items ≡ Ok meant → IsTrue mid.told → (given : List Arrival) →
        plan given old.content ≡ before (read path) (plan_by (others given meant) mid.content)
    plan-is meant e told given =
        ap (read_then path (λ bytes. by-meaning given (meaning bytes)) old.content) (reads.found told)
        ∙ ap (λ r. before (read path) (by-meaning given r old.content)) e
        ∙ ap (λ c. before (read path) (plan_by (others given meant) c)) (sym reads.same)

    read-first : Ran (read path ∷ []) (outside old out wire) was
    read-first = record { files = reads.same; out = sym (append-nil out.bytes); wire = refl }

    -- what was read is accepted
    pub accepted-so : (meant : A) (new : Outside) (code : ℕ) (said : List ℕ) → meaning bytes.items ≡ Ok meant →
        RunEndsWith (λ given. plan_by (others given meant)) was new code said → EndsSo new code said
    accepted-so meant new code said e h = record {
      given = h.given;
      heard = record { taken = h.heard.taken; told_end = h.heard.told_end; within = h.heard.within };
      ends = EndsWith-stage path meaning status line (others h.given) old mid was bytes reads meant new code said e h.ends;
      reached = λ told.
          subst (λ (p : Plan). HasReached p.actions h.given (outside old out wire) new) (sym (plan-is meant e (h.ends.ends.later.told told) h.given))
          (reached-behind (read path ∷ []) (plan_by (others h.given meant) mid.content).actions [] h.given (outside old out wire) was new
          (later-files old mid was reads.call.told reads.call.reliable reads.same_here reads.call.cause.later) read-first refl
          (h.reached told));
      asked = λ told front next rest is.
          ap (λ (p : Plan). p.status) (plan-is meant e (h.ends.ends.later.told told) front)
          ∙ h.asked told front next rest is;
      answers = λ reliable. h.answers (still-reliable path old mid out wire (Ok bytes) reads reliable);
    }

-- ---- actions that depend on what the link gave

-- a fault ends a plan with these actions, whatever its own status
at-fault : (actions : List Action) (first final : ℕ) (line : List ℕ) (old new : Outside) (fault : Fault) →
    (code_of_fault fault ≡ first → ⊥) → EndsWith (doing actions first line) old new (code_of_fault fault) (line_of_fault fault) →
    EndsWith (doing actions final line) old new (code_of_fault fault) (line_of_fault fault)
at-fault actions first final line old new fault other h = record {
  ends = record {
    later = h.ends.later;
    file_rose = h.ends.file_rose;
    file_named = h.ends.file_named;
    link_rose = h.ends.link_rose;
    output_rose = h.ends.output_rose;
    carried = λ told go. absurd (no-end fault go);
    part = h.ends.part;
    fixed = λ is go. absurd (no-end fault go);
    fixed_part = λ is. h.ends.fixed_part (record { same = λ other. refl; unread = is.unread });
    complete = λ reliable told. elim (h.ends.complete reliable told) [ inl e ↦ absurd (other e) | inr e ↦ inr e ];
  };
  line_is = λ either. same-line fault;
  fixed_line = λ is. same-line fault;
}
  where
    no-end : (stop : Fault) → is_stop (code_of_fault stop) ≡ false → ⊥
    no-end File e = cc
    no-end Link e = cc
    no-end Output e = cc
    no-end NoMemory e = cc

    same-line : (stop : Fault) → line_of_fault stop ≡ line_at (doing actions final line old.files.content) (code_of_fault stop)
    same-line File = refl
    same-line Link = refl
    same-line Output = refl
    same-line NoMemory = refl

no-zero : (fault : Fault) → code_of_fault fault ≡ 0 → ⊥
no-zero File e = absurd (omega arith)
no-zero Link e = absurd (omega arith)
no-zero Output e = absurd (omega arith)
no-zero NoMemory e = absurd (omega arith)

no-link-fault : {T : Type 0} (fault : Fault) → ◌≡◌ {A = Result T Fault} (Err fault) (Err NoMemory) → code_of_fault fault ≡ 6 → ⊥
no-link-fault File e six = absurd (omega arith)
no-link-fault Link e six = cc
no-link-fault Output e six = absurd (omega arith)
no-link-fault NoMemory e six = absurd (omega arith)

-- a command that follows them ends like this
pub following : {T : Type 0} (actions : List Arrival → List Action) (r : Rules) (old new : Outside) (result : Result T Fault) →
    ((given : List Arrival) (here : CreatedFiles) → CanRun (actions given) here) → RunFollows actions r old new result →
    RunEndsWith (λ given. doing (actions given) (status_of r given) []) old new (code_after 0 result) (line_after [] result)
following actions r old new (Ok x) can h = record {
  given = h.given;
  heard = h.heard;
  reached = λ told. h.reached;
  asked = λ told front next rest e. ap (λ b. if b then 0 else 6) (h.asked front next rest e);
  ends =
      subst (λ b. EndsWith (doing (actions h.given) (if b then 0 else 6) []) old new 0 []) (sym h.ended)
      (EndsWith-doing (actions h.given) 0 [] old new (can h.given old.files.created_here) refl (Ok x) h.follows);
  answers = λ reliable e. absurd (omega arith);
}
following {T} actions r old new (Err fault) can h = record {
  given = h.given;
  heard = h.heard;
  reached = λ told. h.reached;
  asked = λ told front next rest e. ap (λ b. if b then 0 else 6) (h.asked front next rest e);
  ends =
      at-fault (actions h.given) 0 (status_of r h.given) [] old new fault (no-zero fault)
      (EndsWith-doing (actions h.given) 0 [] old new (can h.given old.files.created_here) refl (Err fault) h.follows);
  answers = λ reliable. no-link-fault {T = T} fault (h.follows.complete reliable (can h.given old.files.created_here));
}
