-- Functions that carry out lists of actions, one after the other.
use Rattle.std.proofs.Common.{◌≡◌, ◌≤◌, ℕ, List, [], ◌∷◌, ◌++◌, true, false, ◌⊎◌, append-nil, Option, Some, None, refl, sym, ap, ◌∙◌, subst, IsTrue, IsSomeAnd, Result, Ok, Err, IsErrOf, inl, inr, arith, take}
use Rattle.bar_outside.specs.Code.Causes.{Rose}
use Rattle.bar_outside.specs.Disk.{Disk, CreatedFiles, Failure, Appends, Creates, created, appended}
use Rattle.bar_outside.specs.Stream.{Stream, Writes}
use Rattle.bar_outside.specs.Wire.{Wire, Traffic, Acts}
use Rattle.bar_outside.specs.declared.files.FileFault.{FileFault}
use Rattle.bar_outside.specs.declared.files.FileFault.TheVariants as file
use Rattle.bar_outside.specs.declared.sink.SinkFault.{SinkFault}
use Rattle.bar_outside.specs.declared.sink.SinkFault.TheVariants as sink
use Rattle.bar_outside.specs.declared.link.LinkFault.{LinkFault}
use Rattle.bar_outside.specs.declared.link.LinkFault.TheVariants as wire
use Rattle.bar_outside.specs.declared.fault.Fault.{Fault}
use Rattle.bar_outside.specs.declared.fault.Fault.TheVariants.{File, Link, Output, NoMemory}
use Rattle.bar_outside.specs.Code.Faults.{fault_of_file, fault_of_sink, fault_of_link, code_of_fault}
use Rattle.bar_outside.specs.Plan.{Outside, with_files, with_out, with_wire, Action, LinkCall, Ran, Reached, Names, CanRun, created_after}
use Rattle.bar_outside.specs.Plan.Action.{create, append, show, link}
use Rattle.bar_outside.specs.Code.Follows.{HasCreated, IsLater, IsReliable, FilesFailed, Follows}
use Rattle.bar_outside.proofs.ActionLists.{Ran-append, Reached-behind, Reached-longer, Reached-nothing, Names-longer, Names-behind, CanRun-front, CanRun-more, CanRun-rest, created_after-append, created_after-more}

pub IsLater-trans : (old mid new : Outside) → IsLater old mid → IsLater mid new → IsLater old new
IsLater-trans old mid new p q = record {
  told = λ told. p.told (q.told told);
  reliable = q.reliable ∙ p.reliable;
  out_reliable = q.out_reliable ∙ p.out_reliable;
  wire_reliable = q.wire_reliable ∙ p.wire_reliable;
  created = λ path h. q.created path (p.created path h);
  faults = omega arith;
  out_faults = omega arith;
  wire_faults = omega arith;
}

named-longer : (plan more : List Action) (o : Option Failure) → IsSomeAnd o (Names plan) → IsSomeAnd o (Names (plan ++ more))
named-longer plan more (Some call) h = Names-longer plan more call h
named-longer plan more None h = h

pub named-behind : (front plan : List Action) (o : Option Failure) → IsSomeAnd o (Names plan) → IsSomeAnd o (Names (front ++ plan))
named-behind front plan (Some call) h = Names-behind front plan call h
named-behind front plan None h = h

-- a fault ends the plan
pub stopped : {T : Type 0} (plan more : List Action) (old new : Outside) (fault : Fault) →
    Follows {T = T} plan old new (Err fault) → Follows {T = T} (plan ++ more) old new (Err fault)
stopped plan more old new fault f = record {
  later = f.later;
  file = λ e. record { rose = (f.file e).rose; named = named-longer plan more new.files.failed (f.file e).named };
  link = f.link;
  output = f.output;
  done = tt;
  created = tt;
  part = Reached-longer plan more (code_of_fault fault) old new f.part;
  complete = λ reliable can. f.complete reliable (CanRun-front plan more old.files.created_here can);
}

module _ {S : Type 0} (front plan : List Action) (old mid new : Outside) (x : S) (first : Follows front old mid (Ok x)) where
  reliable-mid : IsReliable old → IsReliable mid
  reliable-mid r = record {
    files = subst IsTrue (sym first.later.reliable) r.files;
    out = subst IsTrue (sym first.later.out_reliable) r.out;
    wire = subst IsTrue (sym first.later.wire_reliable) r.wire;
  }

  can-mid : CanRun (front ++ plan) old.files.created_here → CanRun plan mid.files.created_here
  can-mid can =
      CanRun-more plan (created_after front old.files.created_here) mid.files.created_here first.created
      (CanRun-rest front plan old.files.created_here can)

  created-then : HasCreated plan mid new → HasCreated (front ++ plan) old new
  created-then second path h =
      second path
      (created_after-more plan (created_after front old.files.created_here) mid.files.created_here first.created path
      (subst (λ (c : CreatedFiles). IsTrue (c path)) (created_after-append front plan old.files.created_here) h))

  file-then : {T : Type 0} {r : Result T Fault} → Follows plan mid new r → IsErrOf r File → FilesFailed (front ++ plan) old new
  file-then second e = record {
    rose = let before = first.later.faults in let rose = (second.file e).rose in omega arith;
    named = named-behind front plan new.files.failed (second.file e).named;
  }

  link-then : {T : Type 0} {r : Result T Fault} → Follows plan mid new r → IsErrOf r Link → Rose old.wire.faults new.wire.faults
  link-then second e = let before = first.later.wire_faults in let rose = second.link e in omega arith

  output-then : {T : Type 0} {r : Result T Fault} → Follows plan mid new r → IsErrOf r Output → Rose old.out.faults new.out.faults
  output-then second e = let before = first.later.out_faults in let rose = second.output e in omega arith

  -- one list of actions after another
  pub followed : {T : Type 0} (r : Result T Fault) → Follows plan mid new r → Follows (front ++ plan) old new r
  followed (Ok y) second = record {
    later = IsLater-trans old mid new first.later second.later;
    file = file-then second;
    link = link-then second;
    output = output-then second;
    done = Ran-append front plan old mid new first.later first.done second.done;
    created = created-then second.created;
    part = tt;
    complete = λ reliable can. tt;
  }
  followed (Err fault) second = record {
    later = IsLater-trans old mid new first.later second.later;
    file = file-then second;
    link = link-then second;
    output = output-then second;
    done = tt;
    created = tt;
    part = Reached-behind front plan (code_of_fault fault) old mid new first.later first.done second.part;
    complete = λ reliable can. second.complete (reliable-mid reliable) (can-mid can);
  }

nothing_shown : (out : Stream) → out.bytes ≡ out.bytes ++ []
nothing_shown out = sym (append-nil out.bytes)

pub Ran-nothing : (old : Outside) → Ran [] old old
Ran-nothing old = record { files = refl; out = nothing_shown old.out; wire = refl }

pub later-same : (old : Outside) → IsLater old old
later-same old = record {
  told = λ told. told;
  reliable = refl;
  out_reliable = refl;
  wire_reliable = refl;
  created = λ path h. h;
  faults = omega arith;
  out_faults = omega arith;
  wire_faults = omega arith;
}

pub later-files : (old new : Disk) (w : Outside) → (IsTrue new.told → IsTrue old.told) → new.reliable ≡ old.reliable →
    new.created_here ≡ old.created_here → old.faults ≤ new.faults → IsLater (with_files w old) (with_files w new)
later-files old new w told reliable here faults = record {
  told = told;
  reliable = reliable;
  out_reliable = refl;
  wire_reliable = refl;
  created = λ path h. subst (λ (c : CreatedFiles). IsTrue (c path)) (sym here) h;
  faults = faults;
  out_faults = omega arith;
  wire_faults = omega arith;
}

later-out : (w : Outside) (old new : Stream) → new.reliable ≡ old.reliable → old.faults ≤ new.faults →
    IsLater (with_out w old) (with_out w new)
later-out w old new reliable faults = record {
  told = λ tells. tells;
  reliable = refl;
  out_reliable = reliable;
  wire_reliable = refl;
  created = λ path h. h;
  faults = omega arith;
  out_faults = faults;
  wire_faults = omega arith;
}

later-wire : (w : Outside) (old new : Wire) → new.reliable ≡ old.reliable → old.faults ≤ new.faults →
    IsLater (with_wire w old) (with_wire w new)
later-wire w old new reliable faults = record {
  told = λ tells. tells;
  reliable = refl;
  out_reliable = refl;
  wire_reliable = reliable;
  created = λ path h. h;
  faults = omega arith;
  out_faults = omega arith;
  wire_faults = faults;
}

-- no action was to be done
pub nothing_done : (old : Outside) → Follows {T = Unit {0}} [] old old (Ok tt)
nothing_done old = record {
  later = later-same old;
  file = λ e. cc;
  link = λ e. cc;
  output = λ e. cc;
  done = Ran-nothing old;
  created = λ path h. h;
  part = tt;
  complete = λ reliable can. tt;
}

-- nothing was done, because memory ran out
pub no_memory : {T : Type 0} (plan : List Action) (old : Outside) → Follows {T = T} plan old old (Err NoMemory)
no_memory plan old = record {
  later = later-same old;
  file = λ e. cc;
  link = λ e. cc;
  output = λ e. cc;
  done = tt;
  created = tt;
  part =
      Reached-nothing plan 70 old old (λ e. absurd (omega arith)) (λ e. absurd (omega arith)) (λ e. absurd (omega arith))
      (Ran-nothing old);
  complete = λ reliable can. refl;
}

-- the result after success may be replaced by another value
pub answered : {S T : Type 0} (plan : List Action) (old new : Outside) (x : S) (y : T) → Follows plan old new (Ok x) →
    Follows plan old new (Ok y)
answered plan old new x y f = record {
  later = f.later;
  file = λ e. cc;
  link = λ e. cc;
  output = λ e. cc;
  done = f.done;
  created = f.created;
  part = tt;
  complete = λ reliable can. tt;
}

same-fault : {T : Type 0} (fault other : Fault) → ◌≡◌ {A = Result T Fault} (Err fault) (Err other) → fault ≡ other
same-fault fault other e = cc

same-stop : {S T : Type 0} (fault other : Fault) → IsErrOf (let r : Result T Fault = Err fault in r) other →
    IsErrOf (let r : Result S Fault = Err fault in r) other
same-stop fault other e = ap (λ (x : Fault). Err x) (same-fault fault other e)

-- a fault is passed on
pub handed : {S T : Type 0} (plan : List Action) (old new : Outside) (fault : Fault) → Follows {T = S} plan old new (Err fault) →
    Follows {T = T} plan old new (Err fault)
handed plan old new fault f = record {
  later = f.later;
  file = λ e. f.file (same-stop fault File e);
  link = λ e. f.link (same-stop fault Link e);
  output = λ e. f.output (same-stop fault Output e);
  done = tt;
  created = tt;
  part = f.part;
  complete = λ reliable can. ap (λ (e : Fault). Err e) (same-fault fault NoMemory (f.complete reliable can));
}

pub named-one : (plan : List Action) (o : Option Failure) (call : Failure) → o ≡ Some call → Names plan call → IsSomeAnd o (Names plan)
named-one plan o call e h = subst (λ x. IsSomeAnd x (Names plan)) (sym e) h

pub true-not_false : true ≡ false → ⊥
true-not_false e = cc

reached-append : (path bytes : List ℕ) (status : ℕ) (old new : Disk) (w : Outside) → (status ≡ 6 → ⊥) → (status ≡ 7 → ⊥) →
    (k : ℕ) × (new.content ≡ appended old.content path (take k bytes)) →
    Reached (append path bytes ∷ []) status (with_files w old) (with_files w new)
reached-append path bytes status old new w no_link no_output q = record {
  done = append path (take q.0 bytes) ∷ [];
  begun = record {
    front = [];
    part = append path (take q.0 bytes) ∷ [];
    rest = append path bytes ∷ [];
    plan_is = refl;
    done_is = refl;
    part_is = (refl, (q.0, refl));
  };
  ran = record { files = q.1; out = nothing_shown w.out; wire = refl };
  at_file = λ e. tt;
  at_link = λ e. absurd (no_link e);
  at_output = λ e. absurd (no_output e);
}

-- an append that failed
pub failed_append : {S T : Type 0} (path bytes : List ℕ) (old new : Disk) (w : Outside) (e : FileFault) →
    Appends {T = S} path bytes old new (Err e) → Follows {T = T} (append path bytes ∷ []) (with_files w old) (with_files w new)
    (Err (fault_of_file e))
failed_append path bytes old new w file.Failed a = record {
  later = later-files old new w a.call.told a.call.reliable a.same_here a.call.cause.later;
  file = λ e. record { rose = a.call.cause.rose refl; named = named-one (append path bytes ∷ []) new.failed _ (a.call.failed refl) (inl refl) };
  link = λ e. cc;
  output = λ e. cc;
  done = tt;
  created = tt;
  part = reached-append path bytes 3 old new w (λ e. absurd (omega arith)) (λ e. absurd (omega arith)) a.fault;
  complete = λ reliable can. absurd (true-not_false (sym can.0 ∙ a.refused reliable.files refl));
}
failed_append path bytes old new w file.NoMemory a = record {
  later = later-files old new w a.call.told a.call.reliable a.same_here a.call.cause.later;
  file = λ e. cc;
  link = λ e. cc;
  output = λ e. cc;
  done = tt;
  created = tt;
  part = reached-append path bytes 70 old new w (λ e. absurd (omega arith)) (λ e. absurd (omega arith)) a.fault;
  complete = λ reliable can. refl;
}

reached-create : (path : List ℕ) (status : ℕ) (old new : Disk) (w : Outside) → (status ≡ 6 → ⊥) → (status ≡ 7 → ⊥) →
    (new.content ≡ old.content) ⊎ (new.content ≡ created old.content path) →
    Reached (create path ∷ []) status (with_files w old) (with_files w new)
reached-create path status old new w no_link no_output (inl same) =
    Reached-nothing (create path ∷ []) status _ _ (λ e. tt) (λ e. absurd (no_link e)) (λ e. absurd (no_output e))
    (record { files = same; out = nothing_shown w.out; wire = refl })
reached-create path status old new w no_link no_output (inr made) = record {
  done = create path ∷ [];
  begun = record { front = []; part = create path ∷ []; rest = create path ∷ []; plan_is = refl; done_is = refl; part_is = refl };
  ran = record { files = made; out = nothing_shown w.out; wire = refl };
  at_file = λ e. tt;
  at_link = λ e. absurd (no_link e);
  at_output = λ e. absurd (no_output e);
}

-- a create that failed
pub failed_create : {S T : Type 0} (path : List ℕ) (old new : Disk) (w : Outside) (e : FileFault) →
    Creates {T = S} path old new (Err e) → Follows {T = T} (create path ∷ []) (with_files w old) (with_files w new) (Err (fault_of_file e))
failed_create path old new w file.Failed a = record {
  later = later-files old new w a.call.told a.call.reliable a.fault_here a.call.cause.later;
  file = λ e. record { rose = a.call.cause.rose refl; named = named-one (create path ∷ []) new.failed _ (a.call.failed refl) (inl refl) };
  link = λ e. cc;
  output = λ e. cc;
  done = tt;
  created = tt;
  part = reached-create path 3 old new w (λ e. absurd (omega arith)) (λ e. absurd (omega arith)) a.fault;
  complete = λ reliable can. absurd (a.refused reliable.files refl);
}
failed_create path old new w file.NoMemory a = record {
  later = later-files old new w a.call.told a.call.reliable a.fault_here a.call.cause.later;
  file = λ e. cc;
  link = λ e. cc;
  output = λ e. cc;
  done = tt;
  created = tt;
  part = reached-create path 70 old new w (λ e. absurd (omega arith)) (λ e. absurd (omega arith)) a.fault;
  complete = λ reliable can. refl;
}

reached-write : (piece : List ℕ) (status : ℕ) (w : Outside) (old new : Stream) → (status ≡ 3 → ⊥) → (status ≡ 6 → ⊥) →
    (k : ℕ) × (new.bytes ≡ old.bytes ++ take k piece) →
    Reached (show piece ∷ []) status (with_out w old) (with_out w new)
reached-write piece status w old new no_file no_link q = record {
  done = show (take q.0 piece) ∷ [];
  begun = record { front = []; part = show (take q.0 piece) ∷ []; rest = show piece ∷ []; plan_is = refl; done_is = refl; part_is = (q.0, refl) };
  ran = record {
    files = refl;
    out = q.1 ∙ ap (λ bytes. old.bytes ++ bytes) (sym (append-nil (take q.0 piece)));
    wire = refl;
  };
  at_file = λ e. absurd (no_file e);
  at_link = λ e. absurd (no_link e);
  at_output = λ e. tt;
}

-- a write that failed
pub failed_write : {S T : Type 0} (piece : List ℕ) (w : Outside) (old new : Stream) (e : SinkFault) →
    Writes {T = S} piece old new (Err e) → Follows {T = T} (show piece ∷ []) (with_out w old) (with_out w new) (Err (fault_of_sink e))
failed_write piece w old new sink.Failed a = record {
  later = later-out w old new a.reliable a.cause.later;
  file = λ e. cc;
  link = λ e. cc;
  output = λ e. a.cause.rose refl;
  done = tt;
  created = tt;
  part = reached-write piece 7 w old new (λ e. absurd (omega arith)) (λ e. absurd (omega arith)) a.fault;
  complete = λ reliable can. absurd (a.refused reliable.out refl);
}
failed_write piece w old new sink.NoMemory a = record {
  later = later-out w old new a.reliable a.cause.later;
  file = λ e. cc;
  link = λ e. cc;
  output = λ e. cc;
  done = tt;
  created = tt;
  part = reached-write piece 70 w old new (λ e. absurd (omega arith)) (λ e. absurd (omega arith)) a.fault;
  complete = λ reliable can. refl;
}

-- a call of the link that failed, and had no effect
pub failed_call : {S T : Type 0} (call : LinkCall) (change : Traffic → Traffic) (w : Outside) (old new : Wire) (e : LinkFault) →
    Acts {T = S} change old new (Err e) → Follows {T = T} (link call ∷ []) (with_wire w old) (with_wire w new) (Err (fault_of_link e))
failed_call call change w old new wire.Failed a = record {
  later = later-wire w old new a.reliable a.cause.later;
  file = λ e. cc;
  link = λ e. a.cause.rose refl;
  output = λ e. cc;
  done = tt;
  created = tt;
  part =
      Reached-nothing (link call ∷ []) 6 _ _ (λ e. absurd (omega arith)) (λ e. tt) (λ e. absurd (omega arith))
      (record { files = refl; out = nothing_shown w.out; wire = a.fault });
  complete = λ reliable can. absurd (a.refused reliable.wire refl);
}
failed_call call change w old new wire.NoMemory a = record {
  later = later-wire w old new a.reliable a.cause.later;
  file = λ e. cc;
  link = λ e. cc;
  output = λ e. cc;
  done = tt;
  created = tt;
  part =
      Reached-nothing (link call ∷ []) 70 _ _ (λ e. absurd (omega arith)) (λ e. tt) (λ e. absurd (omega arith))
      (record { files = refl; out = nothing_shown w.out; wire = a.fault });
  complete = λ reliable can. refl;
}
