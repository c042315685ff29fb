-- What the history of files says about a read and an append.
use Rattle.std.proofs.Common.{◌≡◌, ◌++◌, ◌∷◌, ◌||◌, ◌∙◌, ℕ, Bool, List, [], Option, None, Some, Ok, Err, IsTrue, IsSome, true, false, cond, take, length, refl, sym, ap, subst, arith}
use Rattle.std.specs.Bool.{⊤}
use Rattle.std.specs.Prelude.{Vec}
use Rattle.std.specs.Option.{option_map}
use Rattle.std.specs.Str.{bytes_eq}
use Rattle.std.specs.declared.alloc.Global.{Global}
use Rattle.std.proofs.lemmas.Bool.{and_parts}
use Rattle.std.proofs.lemmas.Slice.Eq.{bytes_eq-Decides}
use Rattle.std.proofs.Math.Seq.{take-length}
use Rattle.bar_outside.specs.Code.Causes.{HasCause}
use Rattle.bar_outside.specs.Disk.{Appends, Content, Reads, appended, put_at, readable}
use Rattle.bar_outside.specs.declared.files.FileFault.{FileFault}
use Rattle.bar_outside.specs.declared.files.FileFault.TheVariants.{Failed, NoMemory}
use Rattle.bar_outside.proofs.Contents.{appended-nothing}
use Rattle.bar_told.specs.Event.{Event, wrote, bound, ticked, came, sent, started, waited, read, made, added, unread, unmade, unadded}
use Rattle.bar_system.specs.History.{content_of, disk_by, fits_of, gives, made_of}

true-false : true ≡ false → ⊥
true-false e = cc

-- ---- a created file exists

put-there : (content : Content) (name path : List ℕ) (before : Bool) → IsTrue (bytes_eq name path || before) →
    (IsTrue before → IsSome (content path)) → IsSome (put_at content name [] path)
unfolding put_at
put-there content name path before h k = go (bytes_eq name path) h
  where
    go : (same : Bool) → IsTrue (same || before) → IsSome (cond same (Some []) (content path))
    go true h = refl
    go false h = k h

mapped : (o : Option (List ℕ)) (bytes : List ℕ) → IsSome o → IsSome (option_map (λ held. held ++ bytes) o)
mapped (Some held) bytes h = h
mapped None bytes h = absurd (true-false (sym h))

added-there : (content : Content) (name bytes path : List ℕ) → IsSome (content path) → IsSome (appended content name bytes path)
unfolding appended
added-there content name bytes path h = go (bytes_eq name path) refl
  where
    go : (same : Bool) → bytes_eq name path ≡ same → IsSome (cond same (option_map (λ held. held ++ bytes) (content name)) (content path))
    go true e = mapped (content name) bytes (subst (λ p. IsSome (content p)) (sym ((bytes_eq-Decides name path).0 e)) h)
    go false e = h

pub made-there : (events : List Event) (was : Content) (path : List ℕ) → IsTrue (made_of events path) → IsSome (content_of events was path)
made-there [] was path h = absurd (true-false (sym h))
made-there (made name ∷ before) was path h = put-there (content_of before was) name path (made_of before path) h (made-there before was path)
made-there (added name bytes ∷ before) was path h = added-there (content_of before was) name bytes path (made-there before was path h)
made-there (wrote bytes ∷ before) was path h = made-there before was path h
made-there (bound me port begin_ms tick_ms ∷ before) was path h = made-there before was path h
made-there (ticked ∷ before) was path h = made-there before was path h
made-there (came bytes ∷ before) was path h = made-there before was path h
made-there (sent to bytes ∷ before) was path h = made-there before was path h
made-there (started words child ∷ before) was path h = made-there before was path h
made-there (waited child status ∷ before) was path h = made-there before was path h
made-there (read name bytes ∷ before) was path h = made-there before was path h
made-there (unread name ∷ before) was path h = made-there before was path h
made-there (unmade name ∷ before) was path h = made-there before was path h
made-there (unadded name ∷ before) was path h = made-there before was path h

-- ---- reads

given-held : (o : Option (List ℕ)) (bytes : List ℕ) → IsTrue (gives o bytes) → o ≡ Some bytes
given-held (Some held) bytes h = ap Some ((bytes_eq-Decides held bytes).0 h)
given-held None bytes h = absurd (true-false (sym h))

-- A successful read is recorded in the history.
pub read-done : (events new : List Event) (faults : ℕ) (path : List ℕ) (bytes : Vec ℕ Global) (was : Content) →
    new ≡ read path bytes.items ∷ events → Reads path (disk_by events faults was) (disk_by new faults was) (Ok bytes)
read-done events new faults path bytes was e = rw e (record {
  call = record {
    told = λ h. (and_parts (gives (readable (content_of events was) path) bytes.items) (fits_of events was) h).1;
    reliable = refl;
    cause = record { later = omega arith; rose = λ f. cc };
    failed = λ f. cc;
    no_fault = λ f. refl;
  };
  same = refl;
  same_here = refl;
  found = λ h. given-held (readable (content_of events was) path) bytes.items
      (and_parts (gives (readable (content_of events was) path) bytes.items) (fits_of events was) h).0;
  refused = λ h. absurd (true-false (sym h));
})

-- ---- appends

-- All bytes were appended.
pub append-done : (events new : List Event) (faults : ℕ) (path bytes : List ℕ) (k : ℕ) (was : Content) →
    new ≡ added path (take k bytes) ∷ events → k ≡ length bytes → IsTrue (made_of events path) →
    Appends {T = Unit {0}} path bytes (disk_by events faults was) (disk_by new faults was) (Ok (tt {0}))
append-done events new faults path bytes k was e all here = rw e (record {
  call = record {
    told = λ h. h;
    reliable = refl;
    cause = record { later = omega arith; rose = λ f. cc };
    failed = λ f. cc;
    no_fault = λ f. refl;
  };
  same_here = refl;
  here = here;
  there = made-there events was path here;
  added = ap (λ xs. appended (content_of events was) path xs) (ap (λ n. take n bytes) all ∙ take-length bytes);
  fault = tt;
  left = λ not. absurd (true-false (sym here ∙ not));
  refused = λ h. absurd (true-false (sym h));
})

-- The first `k` bytes were appended, and then the call failed.
pub append-failed : (events mid new : List Event) (faults later : ℕ) (path bytes : List ℕ) (k : ℕ) (fault : FileFault) (was : Content) →
    mid ≡ added path (take k bytes) ∷ events → (fault ≡ Failed → new ≡ unadded path ∷ mid) → (fault ≡ NoMemory → new ≡ mid) →
    HasCause {T = ⊤} Failed faults later (Err fault) → IsTrue (made_of events path) →
    Appends {T = Unit {0}} path bytes (disk_by events faults was) (disk_by new later was) (Err fault)
append-failed events mid new faults later path bytes k Failed was m noted unnoted cause here = rw (noted refl, m) (record {
  call = record {
    told = λ h. h;
    reliable = refl;
    cause = record { later = cause.later; rose = λ f. cause.rose refl };
    failed = λ f. refl;
    no_fault = λ other. absurd (other refl);
  };
  same_here = refl;
  here = tt;
  there = tt;
  added = tt;
  fault = (k, refl);
  left = λ not. absurd (true-false (sym here ∙ not));
  refused = λ h. absurd (true-false (sym h));
})
append-failed events mid new faults later path bytes k NoMemory was m noted unnoted cause here = rw (unnoted refl, m) (record {
  call = record {
    told = λ h. h;
    reliable = refl;
    cause = record { later = cause.later; rose = λ f. cc };
    failed = λ f. cc;
    no_fault = λ other. refl;
  };
  same_here = refl;
  here = tt;
  there = tt;
  added = tt;
  fault = (k, refl);
  left = λ not. absurd (true-false (sym here ∙ not));
  refused = λ h. absurd (true-false (sym h));
})

-- Nothing was appended.
pub append-refused : (events new : List Event) (faults later : ℕ) (path bytes : List ℕ) (fault : FileFault) (was : Content) →
    (fault ≡ Failed → new ≡ unadded path ∷ events) → (fault ≡ NoMemory → new ≡ events) → HasCause {T = ⊤} Failed faults later (Err fault) →
    Appends {T = Unit {0}} path bytes (disk_by events faults was) (disk_by new later was) (Err fault)
append-refused events new faults later path bytes Failed was noted unnoted cause = rw (noted refl) (record {
  call = record {
    told = λ h. h;
    reliable = refl;
    cause = record { later = cause.later; rose = λ f. cause.rose refl };
    failed = λ f. refl;
    no_fault = λ other. absurd (other refl);
  };
  same_here = refl;
  here = tt;
  there = tt;
  added = tt;
  fault = (0, sym (appended-nothing (content_of events was) path));
  left = λ not. refl;
  refused = λ h. absurd (true-false (sym h));
})
append-refused events new faults later path bytes NoMemory was noted unnoted cause = rw (unnoted refl) (record {
  call = record {
    told = λ h. h;
    reliable = refl;
    cause = record { later = cause.later; rose = λ f. cc };
    failed = λ f. cc;
    no_fault = λ other. refl;
  };
  same_here = refl;
  here = tt;
  there = tt;
  added = tt;
  fault = (0, sym (appended-nothing (content_of events was) path));
  left = λ not. refl;
  refused = λ h. absurd (true-false (sym h));
})

-- ---- what a refusal records

-- A refusal doesn't change the content.
pub same-content : (events new : List Event) (path : List ℕ) (fault : FileFault) → (fault ≡ Failed → new ≡ unadded path ∷ events) →
    (fault ≡ NoMemory → new ≡ events) → (was : Content) → content_of new was ≡ content_of events was
same-content events new path Failed noted unnoted was = ap (λ xs. content_of xs was) (noted refl)
same-content events new path NoMemory noted unnoted was = ap (λ xs. content_of xs was) (unnoted refl)
