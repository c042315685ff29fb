-- Laws of lists of actions.
use Rattle.std.proofs.Common.{◌≡◌, ◌||◌, ℕ, Bool, true, false, List, [], ◌∷◌, ◌++◌, refl, sym, ap, ◌∙◌, subst, append_assoc, append-nil, IsTrue, ◌⊎◌, inl, inr, arith}
use Rattle.std.specs.Str.{bytes_eq}
use Rattle.std.proofs.lemmas.Slice.Eq.{bytes_eq-Decides}
use Rattle.bar_outside.specs.Disk.{Content, CreatedFiles, Failure, with_file}
use Rattle.bar_outside.specs.Wire.{Traffic}
use Rattle.bar_outside.specs.Code.Follows.{IsLater}
use Rattle.bar_outside.specs.Plan.{Outside, Action, Ran, Begun, Reached, Names, CanRun, IsFilesNext, IsLinkNext, IsShowNext, IsPartOf, IsPartOfNext, content_after, content_by, created_after, created_by, shown, shown_by, traffic_after, traffic_by}
use Rattle.bar_outside.specs.Plan.Action.{read, create, append, show, link}

pub content_after-append : (xs ys : List Action) (content : Content) → content_after (xs ++ ys) content ≡ content_after ys (content_after xs content)
content_after-append [] ys content = refl
content_after-append (x ∷ xs) ys content = content_after-append xs ys (content_by x content)

pub shown-append : (xs ys : List Action) → shown (xs ++ ys) ≡ shown xs ++ shown ys
shown-append [] ys = refl
shown-append (x ∷ xs) ys = ap (λ bytes. shown_by x ++ bytes) (shown-append xs ys) ∙ sym (append_assoc (shown_by x) (shown xs) (shown ys))

pub traffic_after-append : (xs ys : List Action) (traffic : Traffic) →
    traffic_after (xs ++ ys) traffic ≡ traffic_after ys (traffic_after xs traffic)
traffic_after-append [] ys traffic = refl
traffic_after-append (x ∷ xs) ys traffic = traffic_after-append xs ys (traffic_by x traffic)

-- two runs, one after the other
pub Ran-append : (xs ys : List Action) (old mid new : Outside) → IsLater old mid → Ran xs old mid → Ran ys mid new → Ran (xs ++ ys) old new
Ran-append xs ys old mid new later first second = record {
  files =
      second.files
      ∙ ap (content_after ys) first.files
      ∙ sym (content_after-append xs ys old.files.content);
  out =
      second.out
      ∙ ap (λ bytes. bytes ++ shown ys) first.out
      ∙ append_assoc old.out.bytes (shown xs) (shown ys)
      ∙ ap (λ bytes. old.out.bytes ++ bytes) (sym (shown-append xs ys));
  wire =
      second.wire
      ∙ ap (traffic_after ys) first.wire
      ∙ sym (traffic_after-append xs ys old.wire.traffic);
}

abbrev pub Begun-behind : (front plan done : List Action) → Begun plan done → Begun (front ++ plan) (front ++ done)
Begun-behind front plan done b = record {
  front = front ++ b.front;
  part = b.part;
  rest = b.rest;
  plan_is = ap (λ xs. front ++ xs) b.plan_is ∙ sym (append_assoc front b.front b.rest);
  done_is = ap (λ xs. front ++ xs) b.done_is ∙ sym (append_assoc front b.front b.part);
  part_is = b.part_is;
}

pub IsPartOfNext-longer : (part rest more : List Action) → IsPartOfNext part rest → IsPartOfNext part (rest ++ more)
IsPartOfNext-longer [] rest more h = tt
IsPartOfNext-longer (x ∷ []) [] more h = absurd h
IsPartOfNext-longer (x ∷ []) (y ∷ ys) more h = h
IsPartOfNext-longer (x ∷ z ∷ zs) rest more h = absurd h

abbrev pub Begun-longer : (plan more done : List Action) → Begun plan done → Begun (plan ++ more) done
Begun-longer plan more done b = record {
  front = b.front;
  part = b.part;
  rest = b.rest ++ more;
  plan_is = ap (λ xs. xs ++ more) b.plan_is ∙ append_assoc b.front b.rest more;
  done_is = b.done_is;
  part_is = IsPartOfNext-longer b.part b.rest more b.part_is;
}

-- nothing was done of the plan
abbrev pub Begun-nothing : (plan : List Action) → Begun plan []
Begun-nothing plan = record { front = []; part = []; rest = plan; plan_is = refl; done_is = refl; part_is = tt }

-- the whole plan was done
pub Begun-whole : (plan : List Action) → Begun plan plan
Begun-whole plan = record {
  front = plan;
  part = [];
  rest = [];
  plan_is = sym (append-nil plan);
  done_is = sym (append-nil plan);
  part_is = tt;
}

FilesNext-longer : (plan more : List Action) → IsFilesNext plan → IsFilesNext (plan ++ more)
FilesNext-longer [] more h = absurd h
FilesNext-longer (show bytes ∷ others) more h = absurd h
FilesNext-longer (link call ∷ others) more h = absurd h
FilesNext-longer (read path ∷ others) more h = tt
FilesNext-longer (create path ∷ others) more h = tt
FilesNext-longer (append path bytes ∷ others) more h = tt

ShowNext-longer : (plan more : List Action) → IsShowNext plan → IsShowNext (plan ++ more)
ShowNext-longer [] more h = absurd h
ShowNext-longer (show bytes ∷ others) more h = tt
ShowNext-longer (read path ∷ others) more h = absurd h
ShowNext-longer (create path ∷ others) more h = absurd h
ShowNext-longer (append path bytes ∷ others) more h = absurd h
ShowNext-longer (link call ∷ others) more h = absurd h

LinkNext-longer : (plan more : List Action) → IsLinkNext plan → IsLinkNext (plan ++ more)
LinkNext-longer [] more h = absurd h
LinkNext-longer (show bytes ∷ others) more h = absurd h
LinkNext-longer (read path ∷ others) more h = absurd h
LinkNext-longer (create path ∷ others) more h = absurd h
LinkNext-longer (append path bytes ∷ others) more h = absurd h
LinkNext-longer (link call ∷ others) more h = tt

-- if a plan was done in part, a longer plan was done just as far
pub Reached-longer : (plan more : List Action) (status : ℕ) (old new : Outside) → Reached plan status old new → Reached (plan ++ more) status old new
Reached-longer plan more status old new r = record {
  done = r.done;
  begun = Begun-longer plan more r.done r.begun;
  ran = r.ran;
  at_file = λ e. FilesNext-longer r.begun.rest more (r.at_file e);
  at_link = λ e. LinkNext-longer r.begun.rest more (r.at_link e);
  at_output = λ e. ShowNext-longer r.begun.rest more (r.at_output e);
}

-- a list of actions was done, and then a part of a plan
pub Reached-behind : (front plan : List Action) (status : ℕ) (old mid new : Outside) → IsLater old mid → Ran front old mid →
    Reached plan status mid new →
    Reached (front ++ plan) status old new
Reached-behind front plan status old mid new later first r = record {
  done = front ++ r.done;
  begun = Begun-behind front plan r.done r.begun;
  ran = Ran-append front r.done old mid new later first r.ran;
  at_file = r.at_file;
  at_link = r.at_link;
  at_output = r.at_output;
}

-- everything was done, and no call failed
pub Reached-whole : (plan : List Action) (status : ℕ) (old new : Outside) → (status ≡ 3 → ⊥) → (status ≡ 6 → ⊥) → (status ≡ 7 → ⊥) →
    Ran plan old new → Reached plan status old new
Reached-whole plan status old new no_file no_link no_output ran = record {
  done = plan;
  begun = Begun-whole plan;
  ran = ran;
  at_file = λ e. absurd (no_file e);
  at_link = λ e. absurd (no_link e);
  at_output = λ e. absurd (no_output e);
}

-- nothing was done
pub Reached-nothing : (plan : List Action) (status : ℕ) (old new : Outside) → (status ≡ 3 → IsFilesNext plan) →
    (status ≡ 6 → IsLinkNext plan) →
    (status ≡ 7 → IsShowNext plan) → Ran [] old new → Reached plan status old new
Reached-nothing plan status old new files wire out ran = record {
  done = [];
  begun = Begun-nothing plan;
  ran = ran;
  at_file = files;
  at_link = wire;
  at_output = out;
}

-- running out of memory may replace any status
pub Reached-memory : (plan : List Action) (status result : ℕ) (old new : Outside) → result ≡ 70 → Reached plan status old new → Reached plan result old new
Reached-memory plan status result old new e r = record {
  done = r.done;
  begun = r.begun;
  ran = r.ran;
  at_file = λ f. absurd (omega arith);
  at_link = λ f. absurd (omega arith);
  at_output = λ f. absurd (omega arith);
}

pub Names-longer : (plan more : List Action) (call : Failure) → Names plan call → Names (plan ++ more) call
Names-longer [] more call h = absurd h
Names-longer (read path ∷ others) more call (inl e) = inl e
Names-longer (read path ∷ others) more call (inr h) = inr (Names-longer others more call h)
Names-longer (create path ∷ others) more call (inl e) = inl e
Names-longer (create path ∷ others) more call (inr h) = inr (Names-longer others more call h)
Names-longer (append path bytes ∷ others) more call (inl e) = inl e
Names-longer (append path bytes ∷ others) more call (inr h) = inr (Names-longer others more call h)
Names-longer (show bytes ∷ others) more call h = Names-longer others more call h
Names-longer (link act ∷ others) more call h = Names-longer others more call h

pub Names-behind : (front plan : List Action) (call : Failure) → Names plan call → Names (front ++ plan) call
Names-behind [] plan call h = h
Names-behind (read path ∷ others) plan call h = inr (Names-behind others plan call h)
Names-behind (create path ∷ others) plan call h = inr (Names-behind others plan call h)
Names-behind (append path bytes ∷ others) plan call h = inr (Names-behind others plan call h)
Names-behind (show bytes ∷ others) plan call h = Names-behind others plan call h
Names-behind (link act ∷ others) plan call h = Names-behind others plan call h

pub CanRun-front : (front rest : List Action) (here : CreatedFiles) → CanRun (front ++ rest) here → CanRun front here
CanRun-front [] rest here h = tt
CanRun-front (read path ∷ others) rest here h = CanRun-front others rest here h
CanRun-front (create path ∷ others) rest here h = CanRun-front others rest (with_file here path) h
CanRun-front (append path bytes ∷ others) rest here h = (h.0, CanRun-front others rest here h.1)
CanRun-front (show bytes ∷ others) rest here h = CanRun-front others rest here h
CanRun-front (link act ∷ others) rest here h = CanRun-front others rest here h

pub CanRun-rest : (front rest : List Action) (here : CreatedFiles) → CanRun (front ++ rest) here → CanRun rest (created_after front here)
CanRun-rest [] rest here h = h
CanRun-rest (read path ∷ others) rest here h = CanRun-rest others rest here h
CanRun-rest (create path ∷ others) rest here h = CanRun-rest others rest (with_file here path) h
CanRun-rest (append path bytes ∷ others) rest here h = CanRun-rest others rest here h.1
CanRun-rest (show bytes ∷ others) rest here h = CanRun-rest others rest here h
CanRun-rest (link act ∷ others) rest here h = CanRun-rest others rest here h

-- each created file of the first is one of the second
abbrev pub IsWithin : CreatedFiles → CreatedFiles → Type 0
IsWithin here more = (path : List ℕ) → IsTrue (here path) → IsTrue (more path)

or-more : (test here more : Bool) → (IsTrue here → IsTrue more) → IsTrue (test || here) → IsTrue (test || more)
or-more true here more within h = refl
or-more false here more within h = within h

or-here : (test here : Bool) → IsTrue here → IsTrue (test || here)
or-here true here h = refl
or-here false here h = h

with-more : (here more : CreatedFiles) (path : List ℕ) → IsWithin here more → IsWithin (with_file here path) (with_file more path)
with-more here more path within name h = or-more (bytes_eq path name) (here name) (more name) (within name) h

-- a file that is created counts as created afterwards, and so do those created before
pub with_file-same : (here : CreatedFiles) (path : List ℕ) → IsTrue (with_file here path path)
with_file-same here path = let same = (bytes_eq-Decides path path).1 refl in rw same refl

pub with_file-others : (here : CreatedFiles) (path : List ℕ) → IsWithin here (with_file here path)
with_file-others here path name h = or-here (bytes_eq path name) (here name) h

-- `CanRun` is monotone: if more files are created, the plan can still run
pub CanRun-more : (plan : List Action) (here more : CreatedFiles) → IsWithin here more → CanRun plan here → CanRun plan more
CanRun-more [] here more within h = tt
CanRun-more (read path ∷ others) here more within h = CanRun-more others here more within h
CanRun-more (create path ∷ others) here more within h =
    CanRun-more others (with_file here path) (with_file more path) (with-more here more path within) h
CanRun-more (append path bytes ∷ others) here more within h = (within path h.0, CanRun-more others here more within h.1)
CanRun-more (show bytes ∷ others) here more within h = CanRun-more others here more within h
CanRun-more (link act ∷ others) here more within h = CanRun-more others here more within h

-- `created_after` is monotone
pub created_after-more : (plan : List Action) (here more : CreatedFiles) → IsWithin here more →
    IsWithin (created_after plan here) (created_after plan more)
created_after-more [] here more within = within
created_after-more (read path ∷ others) here more within = created_after-more others here more within
created_after-more (create path ∷ others) here more within =
    created_after-more others (with_file here path) (with_file more path) (with-more here more path within)
created_after-more (append path bytes ∷ others) here more within = created_after-more others here more within
created_after-more (show bytes ∷ others) here more within = created_after-more others here more within
created_after-more (link act ∷ others) here more within = created_after-more others here more within

pub created_after-append : (xs ys : List Action) (here : CreatedFiles) →
    created_after (xs ++ ys) here ≡ created_after ys (created_after xs here)
created_after-append [] ys here = refl
created_after-append (x ∷ xs) ys here = created_after-append xs ys (created_by x here)

-- what was created stays created
pub created-stays : (acts : List Action) (here : CreatedFiles) → IsWithin here (created_after acts here)
created-stays [] here path h = h
created-stays (read name ∷ others) here path h = created-stays others here path h
created-stays (create name ∷ others) here path h = created-stays others (with_file here name) path (with_file-others here name path h)
created-stays (append name bytes ∷ others) here path h = created-stays others here path h
created-stays (show bytes ∷ others) here path h = created-stays others here path h
created-stays (link act ∷ others) here path h = created-stays others here path h

-- what was done of a plan: nothing, a part of its first action, or the first action and then a part of the rest
pub Begun-first : (first : Action) (plan done : List Action) (b : Begun (first ∷ plan) done) →
    ((done ≡ []) × (b.rest ≡ first ∷ plan))
    ⊎ (((part : Action) × (done ≡ part ∷ []) × IsPartOf part first × (b.rest ≡ first ∷ plan))
    ⊎ ((more : List Action) × (done ≡ first ∷ more) × (m : Begun plan more) × (m.rest ≡ b.rest)))
Begun-first first plan done b = by_front first plan done b.front b.part b.rest b.plan_is b.done_is b.part_is
  where
    by_front : (first : Action) (plan done front part rest : List Action) → first ∷ plan ≡ front ++ rest →
        done ≡ front ++ part → IsPartOfNext part rest →
        ((done ≡ []) × (rest ≡ first ∷ plan))
        ⊎ (((part : Action) × (done ≡ part ∷ []) × IsPartOf part first × (rest ≡ first ∷ plan))
        ⊎ ((more : List Action) × (done ≡ first ∷ more) × (m : Begun plan more) × (m.rest ≡ rest)))
    by_front first plan done [] [] rest p d h = inl (d, sym p)
    by_front first plan done [] (x ∷ []) [] p d h = absurd h
    by_front first plan done [] (x ∷ []) (y ∷ ys) p d h = let e : first ≡ y = cc in inr (inl (x, d, rw e h, sym p))
    by_front first plan done [] (x ∷ z ∷ zs) rest p d h = absurd h
    by_front first plan done (x ∷ xs) part rest p d h =
        let e : first ≡ x = cc in
        let q : plan ≡ xs ++ rest = cc in
        inr (inr (xs ++ part, rw e d, record { front = xs; part = part; rest = rest; plan_is = q; done_is = refl; part_is = h }, refl))

part-shorter : (x : Action) (xs ys part : List Action) → IsPartOfNext part (x ∷ (xs ++ ys)) → IsPartOfNext part (x ∷ xs)
part-shorter x xs ys [] h = tt
part-shorter x xs ys (a ∷ []) h = h
part-shorter x xs ys (a ∷ b ∷ c) h = absurd h

-- what was done of two plans in order: a part of the first, which also contains the next action; or all of it, and a part of the second
pub Begun-both : (xs ys done : List Action) (b : Begun (xs ++ ys) done) →
    ((first : Action) × (others : List Action) × (m : Begun xs done) × (m.rest ≡ first ∷ others) × (b.rest ≡ first ∷ (others ++ ys)))
    ⊎ ((more : List Action) × (done ≡ xs ++ more) × (m : Begun ys more) × (m.rest ≡ b.rest))
Begun-both xs ys done b = by_front xs ys done b.front b.part b.rest b.plan_is b.done_is b.part_is
  where
    by_front : (xs ys done front part rest : List Action) → xs ++ ys ≡ front ++ rest → done ≡ front ++ part → IsPartOfNext part rest →
        ((first : Action) × (others : List Action) × (m : Begun xs done) × (m.rest ≡ first ∷ others) × (rest ≡ first ∷ (others ++ ys)))
        ⊎ ((more : List Action) × (done ≡ xs ++ more) × (m : Begun ys more) × (m.rest ≡ rest))
    by_front [] ys done front part rest p d h =
        inr (done, refl, record { front = front; part = part; rest = rest; plan_is = p; done_is = d; part_is = h }, refl)
    by_front (x ∷ xs) ys done [] part rest p d h =
        let short = part-shorter x xs ys part (subst (IsPartOfNext part) (sym p) h) in
        inl (x, xs, record { front = []; part = part; rest = x ∷ xs; plan_is = refl; done_is = d; part_is = short }, refl, sym p)
    by_front (x ∷ xs) ys done (f ∷ fs) part rest p d h =
        let e : f ≡ x = cc in
        let q : xs ++ ys ≡ fs ++ rest = cc in
        let all : done ≡ x ∷ (fs ++ part) = d ∙ ap (λ a. a ∷ (fs ++ part)) e in
        elim (by_front xs ys (fs ++ part) fs part rest q refl h) [
          | inl m ↦ inl (
            m.0,
            m.1,
            record {
              front = x ∷ m.2.front;
              part = m.2.part;
              rest = m.2.rest;
              plan_is = ap (λ l. x ∷ l) m.2.plan_is;
              done_is = all ∙ ap (λ l. x ∷ l) m.2.done_is;
              part_is = m.2.part_is;
            },
            m.3,
            m.4,
          )
          | inr m ↦ inr (m.0, all ∙ ap (λ l. x ∷ l) m.1, m.2, m.3)
        ]

-- the kind of the next action (on the files, of the link, or printing) depends only on that action
pub files-next : (a : Action) (xs ys : List Action) → IsFilesNext (a ∷ xs) → IsFilesNext (a ∷ ys)
files-next (read path) xs ys h = tt
files-next (create path) xs ys h = tt
files-next (append path bytes) xs ys h = tt
files-next (show bytes) xs ys h = absurd h
files-next (link call) xs ys h = absurd h

pub show-next : (a : Action) (xs ys : List Action) → IsShowNext (a ∷ xs) → IsShowNext (a ∷ ys)
show-next (read path) xs ys h = absurd h
show-next (create path) xs ys h = absurd h
show-next (append path bytes) xs ys h = absurd h
show-next (show bytes) xs ys h = tt
show-next (link call) xs ys h = absurd h

pub link-next : (a : Action) (xs ys : List Action) → IsLinkNext (a ∷ xs) → IsLinkNext (a ∷ ys)
link-next (read path) xs ys h = absurd h
link-next (create path) xs ys h = absurd h
link-next (append path bytes) xs ys h = absurd h
link-next (show bytes) xs ys h = absurd h
link-next (link call) xs ys h = tt

pub nil-cons : (x : Action) (xs : List Action) → ◌≡◌ {A = List Action} [] (x ∷ xs) → ⊥
nil-cons x xs e = cc

pub no-part-read : (part : Action) (path : List ℕ) → IsPartOf part (read path) → ⊥
no-part-read (read p) path h = h
no-part-read (create p) path h = h
no-part-read (append p bytes) path h = h
no-part-read (show bytes) path h = h
no-part-read (link call) path h = h

-- a partial create is the whole create
pub part-create : (part : Action) (path : List ℕ) → IsPartOf part (create path) → part ≡ create path
part-create (read p) path h = absurd h
part-create (create p) path h = ap create h
part-create (append p bytes) path h = absurd h
part-create (show bytes) path h = absurd h
part-create (link call) path h = absurd h

-- an empty plan has no next action
pub no-next : (done : List Action) (b : Begun [] done) → b.rest ≡ []
no-next done b = by_front b.front b.rest b.plan_is
  where
    by_front : (front rest : List Action) → ◌≡◌ {A = List Action} [] (front ++ rest) → rest ≡ []
    by_front [] rest p = sym p
    by_front (x ∷ xs) rest p = absurd (nil-cons x (xs ++ rest) p)

-- nothing of an empty plan is done
pub Begun-none : (done : List Action) → Begun [] done → done ≡ []
Begun-none done b = by_front done b.front b.part b.rest b.plan_is b.done_is b.part_is
  where
    by_front : (done front part rest : List Action) → ◌≡◌ {A = List Action} [] (front ++ rest) → done ≡ front ++ part → IsPartOfNext part rest → done ≡ []
    by_front done [] [] rest p d h = d
    by_front done [] (x ∷ []) [] p d h = absurd h
    by_front done [] (x ∷ []) (y ∷ ys) p d h = absurd (nil-cons y ys p)
    by_front done [] (x ∷ z ∷ zs) rest p d h = absurd h
    by_front done (x ∷ xs) part rest p d h = absurd (nil-cons x (xs ++ rest) p)

-- a call of two plans in order is one of the first or of the second
pub Names-split : (xs ys : List Action) (call : Failure) → Names (xs ++ ys) call → Names xs call ⊎ Names ys call
Names-split [] ys call h = inr h
Names-split (read path ∷ others) ys call (inl e) = inl (inl e)
Names-split (read path ∷ others) ys call (inr h) = elim (Names-split others ys call h) [ inl a ↦ inl (inr a) | inr b ↦ inr b ]
Names-split (create path ∷ others) ys call (inl e) = inl (inl e)
Names-split (create path ∷ others) ys call (inr h) = elim (Names-split others ys call h) [ inl a ↦ inl (inr a) | inr b ↦ inr b ]
Names-split (append path bytes ∷ others) ys call (inl e) = inl (inl e)
Names-split (append path bytes ∷ others) ys call (inr h) = elim (Names-split others ys call h) [ inl a ↦ inl (inr a) | inr b ↦ inr b ]
Names-split (show bytes ∷ others) ys call h = Names-split others ys call h
Names-split (link act ∷ others) ys call h = Names-split others ys call h

pub CanRun-append : (xs ys : List Action) (here : CreatedFiles) → CanRun xs here → CanRun ys (created_after xs here) → CanRun (xs ++ ys) here
CanRun-append [] ys here h k = k
CanRun-append (read path ∷ others) ys here h k = CanRun-append others ys here h k
CanRun-append (create path ∷ others) ys here h k = CanRun-append others ys (with_file here path) h k
CanRun-append (append path bytes ∷ others) ys here h k = (h.0, CanRun-append others ys here h.1 k)
CanRun-append (show bytes ∷ others) ys here h k = CanRun-append others ys here h k
CanRun-append (link act ∷ others) ys here h k = CanRun-append others ys here h k

-- how far two plans in order got: a part of the first, or all of it and a part of the second
pub Reached-both : (xs ys : List Action) (status : ℕ) (old new : Outside) (d : Reached (xs ++ ys) status old new) →
    Reached xs status old new
    ⊎ ((more : List Action) × (d.done ≡ xs ++ more) × (m : Begun ys more) × (m.rest ≡ d.begun.rest))
Reached-both xs ys status old new d =
    elim (Begun-both xs ys d.done d.begun) [
      | inl m ↦
          inl (record {
            done = d.done;
            begun = m.2;
            ran = d.ran;
            at_file = λ e. subst IsFilesNext (sym m.3) (files-next m.0 (m.1 ++ ys) m.1 (subst IsFilesNext m.4 (d.at_file e)));
            at_link = λ e. subst IsLinkNext (sym m.3) (link-next m.0 (m.1 ++ ys) m.1 (subst IsLinkNext m.4 (d.at_link e)));
            at_output = λ e. subst IsShowNext (sym m.3) (show-next m.0 (m.1 ++ ys) m.1 (subst IsShowNext m.4 (d.at_output e)));
          })
      | inr m ↦ inr m
    ]
