-- The effects of making a file, in whole or in part: the file is created and written, and then lines are printed.
use Rattle.std.proofs.Common.{◌≡◌, ◌≢◌, ◌⊎◌, Option, ℕ, List, [], ◌∷◌, ◌++◌, Some, IsTrue, Result, refl, sym, ap, ◌∙◌, subst, inl, inr, take, append-nil}
use Rattle.std.specs.List.{concat}
use Rattle.bar_outside.specs.Disk.{Content, CreatedFiles, Failure, created}
use Rattle.bar_outside.specs.declared.files.CallKind.TheVariants.{Append, Create}
use Rattle.bar_outside.specs.Plan.{Outside, Action, CanRun, Ran, Reached, Touches, IsShowNext, content_after, shown}
use Rattle.bar_outside.specs.Plan.Action.{create, append, show}
use Rattle.bar_outside.specs.Code.Follows.{Follows}
use Rattle.bar_outside.specs.Stages.{IsUnchanged}
use Rattle.bar_outside.specs.declared.fault.Fault.{Fault}
use Rattle.bar_outside.proofs.ActionLists.{with_file-same}
use Rattle.bar_outside.proofs.Contents.{put_at-same, put_at-other, appended-same, appended-other}
use Rattle.bar_outside.proofs.StageRows.{IsEndWithin}
use Rattle.bar_outside.proofs.Untouched.{untouched-reached}
use Rattle.bar_cli.specs.Code.Turns.{Turn, played_bytes, shown_bytes}
use Rattle.bar_cli.proofs.UpToLemmas.{IsStopped, IsMadeAt, IsUpTo, stopped-played, unchanged-by}

abbrev pub making : (path text lines : List ℕ) → List Action
making path text lines = create path ∷ append path text ∷ show lines ∷ []

-- the file is created before it is written
pub can-make : (path text lines : List ℕ) (here : CreatedFiles) → CanRun (making path text lines) here
can-make path text lines here = (with_file-same here path, tt)

-- equal texts and lines make equal files
pub made-of : {T : Type 0} (path text same lines others : List ℕ) (old new : Outside) (r : Result T Fault) → text ≡ same → lines ≡ others →
    Follows (making path text lines) old new r → Follows (making path same others) old new r
made-of path text same lines others old new r e f h =
    subst (λ (xs : List ℕ). Follows (making path xs others) old new r) e
    (subst (λ (xs : List ℕ). Follows (making path text xs) old new r) f h)

-- the calls of the files that the making contains
pub making-within : (C : Failure → Type 0) (path text lines : List ℕ) → C (record { kind = Create; path = path }) →
    C (record { kind = Append; path = path }) → IsEndWithin C (record { actions = making path text lines; status = 0; line = [] })
making-within C path text lines creates appends = record {
  unlinked = tt;
  calls = λ call h. elim h [
    | inl e ↦ subst C (sym e) creates
    | inr more ↦ elim more [ inl e ↦ subst C (sym e) appends | inr none ↦ absurd none ]
  ];
}

-- ---- all of it was done

written : (path text lines : List ℕ) (content : Content) → content_after (making path text lines) content path ≡ Some text
written path text lines content = appended-same (created content path) path text [] (put_at-same content path [])

unwritten : (path text lines : List ℕ) (content : Content) (other : List ℕ) → other ≢ path →
    content_after (making path text lines) content other ≡ content other
unwritten path text lines content other differs =
    appended-other (created content path) path text other differs ∙ put_at-other content path [] other differs

-- the file contains the text, the lines were printed, and no other file was changed
pub record IsMade (path text lines : List ℕ) (old new : Outside) : Type 0 where
  pub written : new.files.content path ≡ Some text
  pub printed : new.out.bytes ≡ old.out.bytes ++ lines
  pub others : (other : List ℕ) → other ≢ path → new.files.content other ≡ old.files.content other

pub made : (path text lines : List ℕ) (old new : Outside) → IsTrue new.files.told → Ran (making path text lines) old new →
    IsMade path text lines old new
made path text lines old new told ran = record {
  written = ap (λ (holds : Content). holds path) ran.files ∙ written path text lines old.files.content;
  printed = ran.out ∙ ap (λ xs. old.out.bytes ++ xs) (append-nil lines);
  others = λ other differs. ap (λ (holds : Content). holds other) ran.files
      ∙ unwritten path text lines old.files.content other differs;
}

-- ---- a part of it was done

touched-all : (path text lines other : List ℕ) → Touches (making path text lines) other → other ≡ path
touched-all path text lines other (inl e) = e
touched-all path text lines other (inr (inl e)) = e
touched-all path text lines other (inr (inr h)) = absurd h

-- however far it got, no other file was changed
pub others-untouched : (path text lines : List ℕ) (old new : Outside) (status : ℕ) (other : List ℕ) → IsTrue new.files.told →
    (other ≡ path → ⊥) → Reached (making path text lines) status old new → new.files.content other ≡ old.files.content other
others-untouched path text lines old new status other told differs r =
    untouched-reached (making path text lines) other old new status r told (λ h. differs (touched-all path text lines other h))

-- the file contains a prefix of the text, and once it is complete a prefix of the lines was printed
record IsMaking (text lines : List ℕ) (file : Option (List ℕ)) (bytes : List ℕ) (next : List Action) : Type 0 where
  pub count : ℕ
  pub many : ℕ
  pub file_is : file ≡ Some (take count text)
  pub out : bytes ≡ take many lines
  pub order : (many ≡ 0) ⊎ (take count text ≡ text)
  pub at_output : IsShowNext next → take count text ≡ text

-- the making consists of the creation of the file and one turn: the text is appended, and then the lines are shown
abbrev one-turn : (text lines : List ℕ) → Turn
one-turn text lines = record { contents = text ∷ []; lines = lines ∷ [] }

-- a turn in a list with one element is this element
only-turn : (t this : Turn) (earlier later : List Turn) → t ∷ [] ≡ earlier ++ this ∷ later → (earlier ≡ []) × (this ≡ t)
only-turn t this [] later e = let same : this ≡ t = cc in (refl, same)
only-turn t this (x ∷ xs) later e = let none : ◌≡◌ {A = List Turn} [] (xs ++ this ∷ later) = cc in absurd (no-more xs none)
  where
    no-more : (xs : List Turn) → ◌≡◌ {A = List Turn} [] (xs ++ this ∷ later) → ⊥
    no-more [] none = cc
    no-more (y ∷ ys) none = cc

module _ (text lines : List ℕ) (file : Option (List ℕ)) (bytes : List ℕ) (next : List Action) where
  making-none : IsMadeAt file bytes next → IsMaking text lines file bytes next
  making-none m = record { count = 0; many = 0; file_is = m.made; out = m.out; order = inl refl; at_output = λ h. absurd (m.silent h) }

  making-some : IsUpTo (one-turn text lines ∷ []) [] file bytes next → IsMaking text lines file bytes next
  making-some u =
      let only = only-turn (one-turn text lines) u.this u.earlier u.later u.is in
      let contents : concat u.this.contents ≡ text = ap (λ (t : Turn). concat t.contents) only.1 ∙ append-nil text in
      let shows : concat u.this.lines ≡ lines = ap (λ (t : Turn). concat t.lines) only.1 ∙ append-nil lines in
      record {
        count = u.played_count;
        many = u.shown_count;
        file_is = u.played
            ∙ ap (λ turns. Some (played_bytes turns ++ take u.played_count (concat u.this.contents))) only.0
            ∙ ap (λ xs. Some (take u.played_count xs)) contents;
        out = u.printed ∙ ap (λ turns. shown_bytes turns ++ take u.shown_count (concat u.this.lines)) only.0
            ∙ ap (take u.shown_count) shows;
        order = elim u.order [ inl none ↦ inl none | inr all ↦ inr (subst (λ xs. take u.played_count xs ≡ xs) contents all) ];
        at_output = λ h. subst (λ xs. take u.played_count xs ≡ xs) contents (u.at_output h);
      }

-- the file contains a prefix of the text, and once it is complete a prefix of the lines was printed; if a write to the output failed, the
-- whole text was written
pub record IsPartlyMade (path text lines : List ℕ) (status : ℕ) (old new : Outside) : Type 0 where
  pub written_count : ℕ
  pub printed_count : ℕ
  pub written : new.files.content path ≡ Some (take written_count text)
  pub printed : new.out.bytes ≡ old.out.bytes ++ take printed_count lines
  pub order : (printed_count ≡ 0) ⊎ (new.files.content path ≡ Some text)
  pub at_output : status ≡ 7 → new.files.content path ≡ Some text

module _ (path text lines : List ℕ) (old new : Outside) (status : ℕ) (told : IsTrue new.files.told)
    (d : Reached (making path text lines) status old new) where
  begun : IsMaking text lines (content_after d.done old.files.content path) (shown d.done) d.begun.rest →
      IsPartlyMade path text lines status old new
  begun m =
      let file = ap (λ (holds : Content). holds path) d.ran.files ∙ m.file_is in
      record {
        written_count = m.count;
        printed_count = m.many;
        written = file;
        printed = d.ran.out ∙ ap (λ xs. old.out.bytes ++ xs) m.out;
        order = elim m.order [ inl none ↦ inl none | inr all ↦ inr (file ∙ ap Some all) ];
        at_output = λ e. file ∙ ap Some (m.at_output (d.at_output e));
      }

  stopped : IsStopped path (one-turn text lines ∷ []) old.files.content (content_after d.done old.files.content) (shown d.done) d.begun.rest →
      IsUnchanged status old new ⊎ IsPartlyMade path text lines status old new
  unfolding IsStopped
  stopped (inl quiet) = inl (unchanged-by (making path text lines) status old new told tt d quiet)
  stopped (inr (inl m)) = inr (begun (making-none _ _ _ _ _ m))
  stopped (inr (inr u)) = inr (begun (making-some _ _ _ _ _ u))

  -- nothing was changed or printed, or the file was begun
  pub made-so-far : IsUnchanged status old new ⊎ IsPartlyMade path text lines status old new
  made-so-far = stopped (stopped-played path (one-turn text lines ∷ []) old.files.content d.done d.begun)
