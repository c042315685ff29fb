-- How a command ends after its actions were followed.
use Rattle.std.proofs.Common.{append-nil, Bool, ◌≡◌, ◌⊎◌, ℕ, List, [], ◌∷◌, ◌++◌, Option, Some, None, true, false, cond, refl, sym, ap, ◌∙◌, subst, IsTrue, IsSomeAnd, Vec, Result, Ok, Err, inl, inr, arith, take, ◌||◌, ◌==◌}
use Rattle.bar_outside.specs.Disk.{Disk, Content, Failure, Reads, readable}
use Rattle.bar_outside.specs.Stream.{Stream}
use Rattle.std.specs.declared.alloc.Global.{Global}
use Rattle.std.proofs.lemmas.Bool.{eqb-true}
use Rattle.bar_outside.specs.declared.files.CallKind.TheVariants.{Read}
use Rattle.bar_outside.specs.declared.files.FileFault.{FileFault}
use Rattle.bar_outside.specs.declared.files.FileFault.TheVariants as file
use Rattle.bar_outside.specs.Code.Faults.{fault_of_file, code_of_fault, line_of_fault, code_after, line_after}
use Rattle.bar_outside.specs.declared.fault.Fault.{Fault}
use Rattle.bar_outside.specs.declared.fault.Fault.TheVariants.{File, Link, Output, NoMemory}
use Rattle.bar_outside.specs.Plan.{Outside, with_files, Action, Plan, reading, read_then, before, accepting, ending, doing, is_stop, line_at, no_memory, Ran, Reached, Names, CanRun, IsFilesNext, ReadsNone}
use Rattle.bar_outside.specs.Plan.Action.{read}
use Rattle.bar_outside.specs.Code.Follows.{IsLater, Follows}
use Rattle.bar_outside.specs.Ends.{Ends, Carried, EndsWith, IsFixed, Prints, Says, is_plain}
use Rattle.bar_outside.proofs.ActionLists.{Reached-whole, Reached-behind, Reached-nothing, Reached-memory, Ran-append}
use Rattle.bar_outside.proofs.Following.{true-not_false, Ran-nothing, IsLater-trans, later-same, later-files, named-behind}

file-memory : {T : Type 0} → ◌≡◌ {A = Result T Fault} (Err File) (Err NoMemory) → ⊥
file-memory e = cc

link-memory : {T : Type 0} → ◌≡◌ {A = Result T Fault} (Err Link) (Err NoMemory) → ⊥
link-memory e = cc

output-memory : {T : Type 0} → ◌≡◌ {A = Result T Fault} (Err Output) (Err NoMemory) → ⊥
output-memory e = cc

pub no_stop : (stop : ℕ) → is_stop stop ≡ true → (status : ℕ) → is_stop status ≡ false → status ≡ stop → ⊥
no_stop stop t status f e = let h : is_stop stop ≡ false = subst (λ s. is_stop s ≡ false) e f in cc

-- nothing more is done
pub Ends-ending : (status : ℕ) (line : List ℕ) (old : Outside) → is_stop status ≡ false → Ends (ending status line) old old status
Ends-ending status line old go = record {
  later = later-same old;
  file_rose = λ e. absurd (no_stop 3 refl status go e);
  file_named = λ e told. absurd (no_stop 3 refl status go e);
  link_rose = λ e. absurd (no_stop 6 refl status go e);
  output_rose = λ e. absurd (no_stop 7 refl status go e);
  carried = λ told go. record { is = refl; ran = Ran-nothing old };
  part = λ told.
      Reached-whole [] status old old (no_stop 3 refl status go) (no_stop 6 refl status go) (no_stop 7 refl status go) (Ran-nothing old);
  fixed = λ is go. record { is = refl; ran = Ran-nothing old };
  fixed_part = λ is.
      Reached-whole [] status old old (no_stop 3 refl status go) (no_stop 6 refl status go) (no_stop 7 refl status go) (Ran-nothing old);
  complete = λ reliable told. inl refl;
}

-- actions are done, and then the command ends
module _ (actions : List Action) (final : ℕ) (line : List ℕ) (old new : Outside)
    (can : CanRun actions old.files.created_here) (go : is_stop final ≡ false) where
  pub Ends-doing : {T : Type 0} (r : Result T Fault) → Follows actions old new r → Ends (doing actions final line) old new (code_after final r)
  Ends-doing (Ok x) f = record {
    later = f.later;
    file_rose = λ e. absurd (no_stop 3 refl final go e);
    file_named = λ e told. absurd (no_stop 3 refl final go e);
    link_rose = λ e. absurd (no_stop 6 refl final go e);
    output_rose = λ e. absurd (no_stop 7 refl final go e);
    carried = λ told go. record { is = refl; ran = f.done };
    part = λ told.
        Reached-whole actions final old new (no_stop 3 refl final go) (no_stop 6 refl final go) (no_stop 7 refl final go) f.done;
    fixed = λ is go. record { is = refl; ran = f.done };
    fixed_part = λ is.
        Reached-whole actions final old new (no_stop 3 refl final go) (no_stop 6 refl final go) (no_stop 7 refl final go) f.done;
    complete = λ reliable told. inl refl;
  }
  Ends-doing {T} (Err File) f = record {
    later = f.later;
    file_rose = λ e. (f.file refl).rose;
    file_named = λ e told. (f.file refl).named;
    link_rose = λ e. absurd (omega arith);
    output_rose = λ e. absurd (omega arith);
    carried = λ told go. cc;
    part = λ told. f.part;
    fixed = λ is go. cc;
    fixed_part = λ is. f.part;
    complete = λ reliable told. absurd (file-memory {T = T} (f.complete reliable can));
  }
  Ends-doing {T} (Err Link) f = record {
    later = f.later;
    file_rose = λ e. absurd (omega arith);
    file_named = λ e. absurd (omega arith);
    link_rose = λ e. f.link refl;
    output_rose = λ e. absurd (omega arith);
    carried = λ told go. cc;
    part = λ told. f.part;
    fixed = λ is go. cc;
    fixed_part = λ is. f.part;
    complete = λ reliable told. absurd (link-memory {T = T} (f.complete reliable can));
  }
  Ends-doing {T} (Err Output) f = record {
    later = f.later;
    file_rose = λ e. absurd (omega arith);
    file_named = λ e. absurd (omega arith);
    link_rose = λ e. absurd (omega arith);
    output_rose = λ e. f.output refl;
    carried = λ told go. cc;
    part = λ told. f.part;
    fixed = λ is go. cc;
    fixed_part = λ is. f.part;
    complete = λ reliable told. absurd (output-memory {T = T} (f.complete reliable can));
  }
  Ends-doing (Err NoMemory) f = record {
    later = f.later;
    file_rose = λ e. absurd (omega arith);
    file_named = λ e. absurd (omega arith);
    link_rose = λ e. absurd (omega arith);
    output_rose = λ e. absurd (omega arith);
    carried = λ told go. cc;
    part = λ told. f.part;
    fixed = λ is go. cc;
    fixed_part = λ is. f.part;
    complete = λ reliable told. inr refl;
  }

begun-read : (path : List ℕ) (others : List ℕ → Content → Plan) (content : Content) (o : Option (List ℕ)) → (rest : List Action) × ((read_then path others content o).actions ≡ read path ∷ rest)
begun-read path others content None = ([], refl)
begun-read path others content (Some bytes) = ((others bytes content).actions, refl)

-- a plan that reads a file isn't fixed
never-fixed : (path : List ℕ) (others : List ℕ → Content → Plan) (content : Content) → IsFixed (reading path others) content → ⊥
never-fixed path others content is = let b = begun-read path others content (readable content path) in subst ReadsNone b.1 is.unread

-- a file was read, and the rest ended
module _ (path : List ℕ) (others : List ℕ → Content → Plan) (old mid : Disk) (w new : Outside) (bytes : Vec ℕ Global) (status : ℕ)
    (reads : Reads path old mid (Ok bytes)) (ends : Ends (others bytes.items) (with_files w mid) new status) where
  plan-is : IsTrue mid.told → reading path others old.content ≡ before (read path) (others bytes.items mid.content)
  plan-is told = ap (read_then path others old.content) (reads.found told) ∙ ap (λ c. before (read path) (others bytes.items c)) (sym reads.same)

  told-mid : IsTrue new.files.told → IsTrue mid.told
  told-mid = ends.later.told

  first : Ran (read path ∷ []) (with_files w old) (with_files w mid)
  first = record { files = reads.same; out = sym (append-nil w.out.bytes); wire = refl }

  later-mid : IsLater (with_files w old) (with_files w mid)
  later-mid = later-files old mid w reads.call.told reads.call.reliable reads.same_here reads.call.cause.later

  either-same : {a b : ℕ} → a ≡ b → (status ≡ a) ⊎ (status ≡ 70) → (status ≡ b) ⊎ (status ≡ 70)
  either-same e (inl h) = inl (h ∙ e)
  either-same e (inr h) = inr h

  pub Ends-reading : Ends (reading path others) (with_files w old) new status
  Ends-reading = record {
    later = IsLater-trans (with_files w old) (with_files w mid) new later-mid ends.later;
    file_rose = λ e. let h = ends.file_rose e in let k = reads.call.cause.later in omega arith;
    file_named = λ e told.
        subst (λ (p : Plan). IsSomeAnd new.files.failed (Names p.actions)) (sym (plan-is (told-mid told)))
        (named-behind (read path ∷ []) (others bytes.items mid.content).actions new.files.failed (ends.file_named e told));
    link_rose = ends.link_rose;
    output_rose = ends.output_rose;
    carried = λ told go.
        let c = ends.carried told go in
        subst (λ (p : Plan). Carried p (with_files w old) new status) (sym (plan-is (told-mid told)))
        (record {
          is = c.is;
          ran = Ran-append (read path ∷ []) (others bytes.items mid.content).actions (with_files w old) (with_files w mid) new later-mid
              first c.ran;
        });
    part = λ told.
        subst (λ (q : Plan). Reached q.actions status (with_files w old) new) (sym (plan-is (told-mid told)))
        (Reached-behind (read path ∷ []) (others bytes.items mid.content).actions status (with_files w old)
        (with_files w mid) new later-mid first (ends.part told));
    fixed = λ is. absurd (never-fixed path others old.content is);
    fixed_part = λ is. absurd (never-fixed path others old.content is);
    complete = λ reliable told.
        either-same (sym (ap (λ (q : Plan). q.status) (plan-is (told-mid told))))
        (ends.complete (record {
          files = subst IsTrue (sym reads.call.reliable) reliable.files;
          out = reliable.out;
          wire = reliable.wire;
        }) told);
  }

-- a read failed
module _ (path : List ℕ) (others : List ℕ → Content → Plan) (old mid : Disk) (w : Outside) where
  unread-next : IsFilesNext (reading path others old.content).actions
  unread-next = let b = begun-read path others old.content (readable old.content path) in subst IsFilesNext (sym b.1) tt

  unread-part : (status : ℕ) → (status ≡ 6 → ⊥) → (status ≡ 7 → ⊥) → mid.content ≡ old.content →
      Reached (reading path others old.content).actions status (with_files w old) (with_files w mid)
  unread-part status no_link no_output same =
      Reached-nothing (reading path others old.content).actions status _ _ (λ e. unread-next) (λ e. absurd (no_link e))
      (λ e. absurd (no_output e)) (record { files = same; out = sym (append-nil w.out.bytes); wire = refl })

  unread-named : (call : Failure) → call ≡ record { kind = Read; path = path } → Names (reading path others old.content).actions call
  unread-named call e = let b = begun-read path others old.content (readable old.content path) in subst (λ xs. Names xs call) (sym b.1) (inl e)

  pub Ends-unread : (cause : FileFault) → Reads path old mid (Err cause) →
      Ends (reading path others) (with_files w old) (with_files w mid) (code_of_fault (fault_of_file cause))
  Ends-unread file.Failed reads = record {
    later = later-files old mid w reads.call.told reads.call.reliable reads.same_here reads.call.cause.later;
    file_rose = λ e. reads.call.cause.rose refl;
    file_named = λ e told. subst (λ o. IsSomeAnd o (Names (reading path others old.content).actions)) (sym (reads.call.failed refl)) (unread-named _ refl);
    link_rose = λ e. absurd (omega arith);
    output_rose = λ e. absurd (omega arith);
    carried = λ told go. cc;
    part = λ told. unread-part 3 (λ e. absurd (omega arith)) (λ e. absurd (omega arith)) reads.same;
    fixed = λ is. absurd (never-fixed path others old.content is);
    fixed_part = λ is. absurd (never-fixed path others old.content is);
    complete = λ reliable told. inl (sym (ap (λ o. (read_then path others old.content o).status) (reads.refused reliable.files refl)));
  }
  Ends-unread file.NoMemory reads = record {
    later = later-files old mid w reads.call.told reads.call.reliable reads.same_here reads.call.cause.later;
    file_rose = λ e. absurd (omega arith);
    file_named = λ e. absurd (omega arith);
    link_rose = λ e. absurd (omega arith);
    output_rose = λ e. absurd (omega arith);
    carried = λ told go. cc;
    part = λ told. unread-part 70 (λ e. absurd (omega arith)) (λ e. absurd (omega arith)) reads.same;
    fixed = λ is. absurd (never-fixed path others old.content is);
    fixed_part = λ is. absurd (never-fixed path others old.content is);
    complete = λ reliable told. inr refl;
  }

-- running out of memory may replace any status
pub Ends-or_memory : (plan : Content → Plan) (old new : Outside) (status result : ℕ) → (result ≡ status) ⊎ (result ≡ 70) → Ends plan old new status → Ends plan old new result
Ends-or_memory plan old new status result (inl e) h = subst (Ends plan old new) (sym e) h
Ends-or_memory plan old new status result (inr e) h = record {
  later = h.later;
  file_rose = λ f. absurd (omega arith);
  file_named = λ f. absurd (omega arith);
  link_rose = λ f. absurd (omega arith);
  output_rose = λ f. absurd (omega arith);
  carried = λ told go. absurd (no_stop 70 refl result go e);
  part = λ told. Reached-memory (plan old.files.content).actions status result old new e (h.part told);
  fixed = λ is go. absurd (no_stop 70 refl result go e);
  fixed_part = λ is. Reached-memory (plan old.files.content).actions status result old new e (h.fixed_part is);
  complete = λ reliable told. inr e;
}

else-cases : (a b c d : Bool) (x y z u p : List ℕ) → (a || b || c || d) ≡ false → cond a x (cond b y (cond c z (cond d u p))) ≡ p
else-cases true b c d x y z u p h = absurd (true-not_false h)
else-cases false true c d x y z u p h = absurd (true-not_false h)
else-cases false false true d x y z u p h = absurd (true-not_false h)
else-cases false false false true x y z u p h = absurd (true-not_false h)
else-cases false false false false x y z u p h = refl

-- at any other status the line is the plan's
pub line_at-else : (plan : Plan) (status : ℕ) → is_stop status ≡ false → line_at plan status ≡ plan.line
line_at-else plan status h = else-cases (status == 3) (status == 6) (status == 7) (status == 70) _ _ _ _ plan.line h

line-cases : (a b c d : Bool) (x y z u p q : List ℕ) → (a || b || c || d) ≡ true →
    cond a x (cond b y (cond c z (cond d u p))) ≡ cond a x (cond b y (cond c z (cond d u q)))
line-cases true b c d x y z u p q h = refl
line-cases false true c d x y z u p q h = refl
line-cases false false true d x y z u p q h = refl
line-cases false false false true x y z u p q h = refl
line-cases false false false false x y z u p q h = absurd (true-not_false (sym h))

-- the line of a stop doesn't depend on the plan
line_at-stop : (p q : Plan) (status : ℕ) → is_stop status ≡ true → line_at p status ≡ line_at q status
line_at-stop p q status h = line-cases (status == 3) (status == 6) (status == 7) (status == 70) _ _ _ _ p.line q.line h

-- nothing more is done
pub EndsWith-ending : (status : ℕ) (line : List ℕ) (old : Outside) → is_stop status ≡ false → EndsWith (ending status line) old old status line
EndsWith-ending status line old go = record {
  ends = Ends-ending status line old go;
  line_is = λ either. sym (line_at-else (ending status line old.files.content) status go);
  fixed_line = λ is. sym (line_at-else (ending status line old.files.content) status go);
}

-- actions are done, and then the command ends
pub EndsWith-doing : {T : Type 0} (actions : List Action) (final : ℕ) (line : List ℕ) (old new : Outside) →
    CanRun actions old.files.created_here → is_stop final ≡ false → (r : Result T Fault) → Follows actions old new r →
    EndsWith (doing actions final line) old new (code_after final r) (line_after line r)
EndsWith-doing actions final line old new can go (Ok x) f = record {
  ends = Ends-doing actions final line old new can go (Ok x) f;
  line_is = λ either. sym (line_at-else (doing actions final line old.files.content) final go);
  fixed_line = λ is. sym (line_at-else (doing actions final line old.files.content) final go);
}
EndsWith-doing actions final line old new can go (Err File) f = record {
  ends = Ends-doing actions final line old new can go (Err File) f;
  line_is = λ either. refl;
  fixed_line = λ is. refl;
}
EndsWith-doing actions final line old new can go (Err Link) f = record {
  ends = Ends-doing actions final line old new can go (Err Link) f;
  line_is = λ either. refl;
  fixed_line = λ is. refl;
}
EndsWith-doing actions final line old new can go (Err Output) f = record {
  ends = Ends-doing actions final line old new can go (Err Output) f;
  line_is = λ either. refl;
  fixed_line = λ is. refl;
}
EndsWith-doing actions final line old new can go (Err NoMemory) f = record {
  ends = Ends-doing actions final line old new can go (Err NoMemory) f;
  line_is = λ either. refl;
  fixed_line = λ is. refl;
}

told-or : (told stop : Bool) → IsTrue (told || stop) → IsTrue told ⊎ (stop ≡ true)
told-or true stop h = inl refl
told-or false stop h = inr h

or-told : (told stop : Bool) → IsTrue told → IsTrue (told || stop)
or-told told stop h = rw h refl

pub or-stop : (told stop : Bool) → stop ≡ true → IsTrue (told || stop)
or-stop true stop h = refl
or-stop false stop h = h

-- a file was read, and the rest ended
pub EndsWith-reading : (path : List ℕ) (others : List ℕ → Content → Plan) (old mid : Disk) (w new : Outside) (bytes : Vec ℕ Global)
    (status : ℕ) (line : List ℕ) →
    Reads path old mid (Ok bytes) → EndsWith (others bytes.items) (with_files w mid) new status line →
    EndsWith (reading path others) (with_files w old) new status line
EndsWith-reading path others old mid w new bytes status line reads h = record {
  ends = Ends-reading path others old mid w new bytes status reads h.ends;
  line_is = λ either.
      elim (told-or new.files.told (is_stop status) either) [
        | inl told ↦
            h.line_is (or-told new.files.told (is_stop status) told)
            ∙ ap (λ (p : Plan). line_at p status) (sym (plan-is path others old mid w new bytes status reads h.ends (h.ends.later.told told)))
        | inr stop ↦ h.line_is (or-stop new.files.told (is_stop status) stop) ∙ line_at-stop (others bytes.items mid.content) (reading path others old.content) status stop
      ];
  fixed_line = λ is. absurd (never-fixed path others old.content is);
}

-- a read failed
pub EndsWith-unread : (path : List ℕ) (others : List ℕ → Content → Plan) (old mid : Disk) (w : Outside) (cause : FileFault) →
    Reads path old mid (Err cause) →
    EndsWith (reading path others) (with_files w old) (with_files w mid) (code_of_fault (fault_of_file cause))
    (line_of_fault (fault_of_file cause))
EndsWith-unread path others old mid w file.Failed reads = record {
  ends = Ends-unread path others old mid w file.Failed reads;
  line_is = λ either. refl;
  fixed_line = λ is. absurd (never-fixed path others old.content is);
}
EndsWith-unread path others old mid w file.NoMemory reads = record {
  ends = Ends-unread path others old mid w file.NoMemory reads;
  line_is = λ either. refl;
  fixed_line = λ is. absurd (never-fixed path others old.content is);
}

-- what was read is accepted
pub EndsWith-accepted : {A E : Type 0} (r : Result A E) (meant : A) (others : A → Content → Plan) (refused : E → Content → Plan) (old new : Outside) (status : ℕ) (line : List ℕ) →
    r ≡ Ok meant → EndsWith (others meant) old new status line → EndsWith (accepting r others refused) old new status line
EndsWith-accepted r meant others refused old new status line e h = subst (λ x. EndsWith (accepting x others refused) old new status line) (sym e) h

-- what was read is refused
pub EndsWith-refused : {A E : Type 0} (r : Result A E) (fault : E) (others : A → Content → Plan) (refused : E → Content → Plan) (old new : Outside) (status : ℕ) (line : List ℕ) →
    r ≡ Err fault → EndsWith (refused fault) old new status line → EndsWith (accepting r others refused) old new status line
EndsWith-refused r fault others refused old new status line e h = subst (λ x. EndsWith (accepting x others refused) old new status line) (sym e) h

-- memory ran out before anything more was done
pub EndsWith-memory : (plan : Content → Plan) (old : Outside) → EndsWith plan old old 70 no_memory
EndsWith-memory plan old = record {
  ends = record {
    later = later-same old;
    file_rose = λ e. absurd (omega arith);
    file_named = λ e. absurd (omega arith);
    link_rose = λ e. absurd (omega arith);
    output_rose = λ e. absurd (omega arith);
    carried = λ told go. cc;
    part = λ told.
        Reached-nothing (plan old.files.content).actions 70 old old (λ e. absurd (omega arith)) (λ e. absurd (omega arith))
        (λ e. absurd (omega arith)) (Ran-nothing old);
    fixed = λ is go. cc;
    fixed_part = λ is.
        Reached-nothing (plan old.files.content).actions 70 old old (λ e. absurd (omega arith)) (λ e. absurd (omega arith))
        (λ e. absurd (omega arith)) (Ran-nothing old);
    complete = λ reliable told. inr refl;
  };
  line_is = λ either. refl;
  fixed_line = λ is. refl;
}

plain-cases : (status : ℕ) → is_plain status ≡ true → (status ≡ 2) ⊎ (is_stop status ≡ true)
plain-cases status h = by_tests (status == 2) (status == 3) (status == 6) (status == 7) (status == 70) refl h
  where
    by_tests : (a b c d e : Bool) → (status == 2) ≡ a → (a || b || c || d) ≡ true → (status ≡ 2) ⊎ ((b || c || d || e) ≡ true)
    by_tests true b c d e is h = inl (eqb-true status 2 is)
    by_tests false true c d e is h = inr refl
    by_tests false false true d e is h = inr refl
    by_tests false false false true e is h = inr refl
    by_tests false false false false e is h = absurd (true-not_false (sym h))

plain-memory : (status : ℕ) → is_plain status ≡ true → status ≡ 70 → ⊥
plain-memory status h e = let k : is_plain 70 ≡ true = subst (λ n. is_plain n ≡ true) e h in cc

-- what was printed on standard error, if the line of the end was printed
module _ (plan : Content → Plan) (old new : Outside) (status result : ℕ) (line : List ℕ) (before_err after_err : Stream)
    (h : EndsWith plan old new status line) (prints : Prints line result before_err after_err) (usage : status ≡ 2 → line ≡ (plan old.files.content).line) where
  said-same : result ≡ status → line ≡ line_at (plan old.files.content) result → Says (plan old.files.content) result before_err after_err
  said-same e line_is = record {
    later = prints.later;
    whole = λ other none. prints.whole other none ∙ ap (λ xs. before_err.bytes ++ xs) line_is;
    front = λ other. let p = prints.front in (p.0, p.1 ∙ ap (λ xs. before_err.bytes ++ take p.0 xs) line_is);
    no_memory = λ other. let p = prints.front in (p.0, result, p.1 ∙ ap (λ xs. before_err.bytes ++ take p.0 xs) line_is);
  }

  said-memory : result ≡ 70 → line ≡ line_at (plan old.files.content) status → Says (plan old.files.content) result before_err after_err
  said-memory e line_is = record {
    later = prints.later;
    whole = λ other. absurd (other e);
    front = λ other. absurd (other e);
    no_memory = λ other.
        let p = prints.front in
        (p.0, status, p.1 ∙ ap (λ xs. before_err.bytes ++ take p.0 xs) line_is);
  }

  at-same : result ≡ status → IsTrue new.files.told ⊎ (is_plain result ≡ true) → line ≡ line_at (plan old.files.content) result
  at-same e (inl told) = h.line_is (or-told new.files.told (is_stop status) told) ∙ ap (line_at (plan old.files.content)) (sym e)
  at-same e (inr plain) =
      elim (plain-cases result plain) [
        | inl two ↦ usage (sym e ∙ two) ∙ rw two refl
        | inr stop ↦ h.line_is (or-stop new.files.told (is_stop status) (ap is_stop (sym e) ∙ stop)) ∙ ap (line_at (plan old.files.content)) (sym e)
      ]

  pub said : (result ≡ status) ⊎ (result ≡ 70) → IsTrue (new.files.told || is_plain result) → Says (plan old.files.content) result before_err after_err
  said (inl e) either = said-same e (at-same e (told-or new.files.told (is_plain result) either))
  said (inr e) either =
      elim (told-or new.files.told (is_plain result) either) [
        | inl told ↦ said-memory e (h.line_is (or-told new.files.told (is_stop status) told))
        | inr plain ↦ absurd (plain-memory result plain e)
      ]

  -- if the plan is fixed, this holds even if the reads disagree with the content
  pub said-fixed : (result ≡ status) ⊎ (result ≡ 70) → IsFixed plan old.files.content → Says (plan old.files.content) result before_err after_err
  said-fixed (inl e) is = said-same e (h.fixed_line is ∙ ap (line_at (plan old.files.content)) (sym e))
  said-fixed (inr e) is = said-memory e (h.fixed_line is)
