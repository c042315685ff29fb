-- The effects of turns that were done in part.
use Rattle.std.proofs.Common.{Option, ◌≡◌, ◌⊎◌, ℕ, ◌+◌, List, [], ◌∷◌, ◌++◌, Some, IsTrue, refl, sym, ap, ◌∙◌, map, length, take, append-nil, append_assoc, inl, inr, subst, min}
use Rattle.std.proofs.lemmas.Grind.{flat_map-append}
use Rattle.std.proofs.Math.Seq.{take-append-add, take-length}
use Rattle.std.specs.List.{concat}
use Rattle.bar_outside.specs.Disk.{Content, created}
use Rattle.bar_outside.specs.Plan.{Outside, Action, Begun, Reached, IsFilesNext, IsShowNext, content_after, shown}
use Rattle.bar_outside.specs.Plan.Action.{create, append, show}
use Rattle.bar_outside.specs.Stages.{IsUnchanged}
use Rattle.bar_outside.proofs.Contents.{put_at-same}
use Rattle.bar_outside.proofs.ActionLists.{content_after-append, shown-append, nil-cons, Begun-first, Begun-both, Begun-none, files-next, show-next, no-next, part-create}
use Rattle.bar_outside.proofs.Stages.{part-shown}
use Rattle.bar_outside.proofs.Unlinked.{IsUnlinked, no-link, same-traffic}
use Rattle.bar_cli.specs.Code.Turns.{Turn, turn_actions, turns_actions, played_bytes, shown_bytes}
use Rattle.bar_outside.proofs.Appends.{appends-same, begun-appends, no-show, shown-appends, take-more}
use Rattle.bar_cli.proofs.ReplayLemmas.{turn-played, shown-turn}

-- what was done of showing some lines
pub begun-shows : (lines : List (List ℕ)) (done : List Action) → Begun (map show lines) done →
    (k : ℕ) × (shown done ≡ take k (concat lines)) × ((c : Content) → content_after done c ≡ c)
begun-shows [] done b = let e = Begun-none done b in (0, ap shown e, λ c. ap (λ xs. content_after xs c) e)
begun-shows (x ∷ xs) done b =
    elim (Begun-first (show x) (map show xs) done b) [
      | inl e ↦ (0, ap shown e.0, λ c. ap (λ xs. content_after xs c) e.0)
      | inr two ↦ elim two [
        | inl part ↦
            let p = part-shown x part.0 part.2 in (
              min p.0 (length x),
              ap shown part.1 ∙ p.1 ∙ sym (take-more p.0 x (concat xs)),
              λ c. ap (λ xs. content_after xs c) part.1 ∙ p.2 c,
            )
        | inr more ↦
            let p = begun-shows xs more.0 more.2 in (
              length x + p.0,
              ap shown more.1 ∙ ap (λ bytes. x ++ bytes) p.1 ∙ sym (take-append-add x (concat xs) p.0),
              λ c. ap (λ xs. content_after xs c) more.1 ∙ p.2 c,
            )
      ]
    ]

-- no action that shows a line is an action on the files
no-file : (lines : List (List ℕ)) (front rest : List Action) → map show lines ≡ front ++ rest → IsFilesNext rest → ⊥
no-file [] [] rest p h = subst IsFilesNext (sym p) h
no-file (x ∷ xs) [] rest p h = subst IsFilesNext (sym p) h
no-file [] (f ∷ fs) rest p h = nil-cons f (fs ++ rest) p
no-file (x ∷ xs) (f ∷ fs) rest p h = let q : map show xs ≡ fs ++ rest = cc in no-file xs fs rest q h

-- ---- turns

-- A file contains what earlier turns play after its old content, and a prefix of what this turn plays. What was printed is what earlier
-- turns show, and a prefix of what this turn shows. The next action determines which of this turn's parts is whole, or was not begun.
pub record IsUpTo (turns : List Turn) (held : List ℕ) (file : Option (List ℕ)) (bytes : List ℕ) (next : List Action) : Type 0 where
  pub earlier : List Turn
  pub this : Turn
  pub later : List Turn
  pub played_count : ℕ
  pub shown_count : ℕ
  pub is : turns ≡ earlier ++ this ∷ later
  pub played : file ≡ Some (held ++ (played_bytes earlier ++ take played_count (concat this.contents)))
  pub printed : bytes ≡ shown_bytes earlier ++ take shown_count (concat this.lines)
  pub order : (shown_count ≡ 0) ⊎ (take played_count (concat this.contents) ≡ concat this.contents)
  pub at_file : IsFilesNext next → shown_count ≡ 0
  pub at_output : IsShowNext next → take played_count (concat this.contents) ≡ concat this.contents

-- a part of a turn was done, and it has a next action
in-turn : (played held : List ℕ) (t : Turn) (later : List Turn) (content : Content) (done : List Action) → content played ≡ Some held →
    (first : Action) (others more : List Action) (m : Begun (turn_actions played t) done) → m.rest ≡ first ∷ others →
    IsUpTo (t ∷ later) held (content_after done content played) (shown done) (first ∷ more)
in-turn played held t later content done there first others more m is =
    elim (Begun-both (map (append played) t.contents) (map show t.lines) done m) [
      | inl a ↦
          let p = begun-appends played held t.contents content done there a.2 in
          record {
            earlier = [];
            this = t;
            later = later;
            played_count = p.0;
            shown_count = 0;
            is = refl;
            played = p.1;
            printed = p.2;
            order = inl refl;
            at_file = λ h. refl;
            at_output = λ h. absurd (no-show played t.contents a.2.front a.2.rest a.2.plan_is
                (subst IsShowNext (sym a.3) (show-next a.0 (a.1 ++ map show t.lines) a.1
                (subst IsShowNext (sym is ∙ a.4) (show-next first more others h)))));
          }
      | inr a ↦
          let s = begun-shows t.lines a.0 a.2 in
          let whole : take (length (concat t.contents)) (concat t.contents) ≡ concat t.contents = take-length (concat t.contents) in
          record {
            earlier = [];
            this = t;
            later = later;
            played_count = length (concat t.contents);
            shown_count = s.0;
            is = refl;
            played = ap (λ xs. content_after xs content played) a.1
                ∙ ap (λ (c : Content). c played)
                (content_after-append (map (append played) t.contents) a.0 content
                ∙ s.2 (content_after (map (append played) t.contents) content))
                ∙ appends-same played held t.contents content there
                ∙ ap (λ bytes. Some (held ++ bytes)) (sym whole);
            printed = ap shown a.1
                ∙ shown-append (map (append played) t.contents) a.0
                ∙ ap (λ bytes. bytes ++ shown a.0) (shown-appends played t.contents)
                ∙ s.1;
            order = inr whole;
            at_file = λ h. absurd (no-file t.lines a.2.front a.2.rest a.2.plan_is
                (subst IsFilesNext (sym (a.3 ∙ is)) (files-next first more others h)));
            at_output = λ h. whole;
          }
    ]

one-more : (held x rest front : List ℕ) → (held ++ x) ++ (rest ++ front) ≡ held ++ ((x ++ rest) ++ front)
one-more held x rest front = append_assoc held x (rest ++ front) ∙ ap (λ bytes. held ++ bytes) (sym (append_assoc x rest front))

-- there was nothing to do, or it was done up to this point
abbrev AreUpTo : List Turn → List ℕ → Option (List ℕ) → List Action → List Action → Type 0
AreUpTo turns held file done next = ((turns ≡ []) × (done ≡ []) × (next ≡ [])) ⊎ IsUpTo turns held file (shown done) next

-- a turn was done, and a part of the following turns
behind-turn : (played held : List ℕ) (t : Turn) (ts : List Turn) (content : Content) (done more next : List Action) →
    content played ≡ Some held → done ≡ turn_actions played t ++ more →
    AreUpTo ts (held ++ concat t.contents) (content_after more (content_after (turn_actions played t) content) played) more next →
    IsUpTo (t ∷ ts) held (content_after done content played) (shown done) next
behind-turn played held t ts content done more next there is (inl e) =
    let all : done ≡ turn_actions played t = is ∙ ap (λ xs. turn_actions played t ++ xs) e.1 ∙ append-nil (turn_actions played t) in
    let whole : take (length (concat t.contents)) (concat t.contents) ≡ concat t.contents = take-length (concat t.contents) in
    record {
      earlier = [];
      this = t;
      later = ts;
      played_count = length (concat t.contents);
      shown_count = length (concat t.lines);
      is = refl;
      played = ap (λ xs. content_after xs content played) all ∙ turn-played played held t content there
          ∙ ap (λ bytes. Some (held ++ bytes)) (sym whole);
      printed = ap shown all ∙ shown-turn played t ∙ sym (take-length (concat t.lines));
      order = inr whole;
      at_file = λ h. absurd (subst IsFilesNext e.2 h);
      at_output = λ h. whole;
    }
behind-turn played held t ts content done more next there is (inr u) = record {
  earlier = t ∷ u.earlier;
  this = u.this;
  later = u.later;
  played_count = u.played_count;
  shown_count = u.shown_count;
  is = ap (λ turns. t ∷ turns) u.is;
  played = ap (λ xs. content_after xs content played) is
      ∙ ap (λ (c : Content). c played) (content_after-append (turn_actions played t) more content)
      ∙ u.played
      ∙ ap Some (one-more held (concat t.contents) (played_bytes u.earlier) (take u.played_count (concat u.this.contents)));
  printed = ap shown is
      ∙ shown-append (turn_actions played t) more
      ∙ ap (λ bytes. bytes ++ shown more) (shown-turn played t)
      ∙ ap (λ bytes. concat t.lines ++ bytes) u.printed
      ∙ sym (append_assoc (concat t.lines) (shown_bytes u.earlier) (take u.shown_count (concat u.this.lines)));
  order = u.order;
  at_file = u.at_file;
  at_output = u.at_output;
}

-- what was done of all turns
pub up-to : (played held : List ℕ) (turns : List Turn) (content : Content) (done : List Action) → content played ≡ Some held →
    (b : Begun (turns_actions played turns) done) → AreUpTo turns held (content_after done content played) done b.rest
up-to played held [] content done there b = inl (refl, Begun-none done b, no-next done b)
up-to played held (t ∷ ts) content done there b =
    elim (Begun-both (turn_actions played t) (turns_actions played ts) done b) [
      | inl m ↦
          inr (subst (λ next. IsUpTo (t ∷ ts) held (content_after done content played) (shown done) next) (sym m.4)
          (in-turn played held t ts content done there m.0 m.1 (m.1 ++ turns_actions played ts) m.2 m.3))
      | inr m ↦
          let behind = up-to played (held ++ concat t.contents) ts (content_after (turn_actions played t) content) m.0
          (turn-played played held t content there) m.2 in
          inr (subst (λ next. IsUpTo (t ∷ ts) held (content_after done content played) (shown done) next) m.3
          (behind-turn played held t ts content done m.0 m.2.rest there m.1 behind))
    ]

-- a list followed by a prefix of another is a prefix of their concatenation
pub front-of : (before this later : List ℕ) (k : ℕ) →
    before ++ take k this ≡ take (length before + min k (length this)) (before ++ (this ++ later))
front-of before this later k =
    sym (take-append-add before (this ++ later) (min k (length this)) ∙ ap (λ bytes. before ++ bytes) (take-more k this later))

-- what earlier turns and a prefix of the next one play is a prefix of what all turns play; the same holds for what they show
pub front-played : (turns earlier : List Turn) (this : Turn) (later : List Turn) (count : ℕ) → turns ≡ earlier ++ this ∷ later →
    (k : ℕ) × (played_bytes earlier ++ take count (concat this.contents) ≡ take k (played_bytes turns))
front-played turns earlier this later count is =
    let all : played_bytes turns ≡ played_bytes earlier ++ (concat this.contents ++ played_bytes later) =
    ap played_bytes is ∙ flat_map-append (λ (turn : Turn). concat turn.contents) earlier (this ∷ later) in
    let k : ℕ = length (played_bytes earlier) + min count (length (concat this.contents)) in
    (k, front-of (played_bytes earlier) (concat this.contents) (played_bytes later) count ∙ ap (take k) (sym all))

pub front-shown : (turns earlier : List Turn) (this : Turn) (later : List Turn) (count : ℕ) → turns ≡ earlier ++ this ∷ later →
    (k : ℕ) × (shown_bytes earlier ++ take count (concat this.lines) ≡ take k (shown_bytes turns))
front-shown turns earlier this later count is =
    let all : shown_bytes turns ≡ shown_bytes earlier ++ (concat this.lines ++ shown_bytes later) =
    ap shown_bytes is ∙ flat_map-append (λ (turn : Turn). concat turn.lines) earlier (this ∷ later) in
    let k : ℕ = length (shown_bytes earlier) + min count (length (concat this.lines)) in
    (k, front-of (shown_bytes earlier) (concat this.lines) (shown_bytes later) count ∙ ap (take k) (sym all))

-- ---- a file that is created, and the turns after it

-- the files are unchanged, nothing was printed, and the next action doesn't print
pub record IsQuietAt (content c : Content) (bytes : List ℕ) (next : List Action) : Type 0 where
  pub files : c ≡ content
  pub out : bytes ≡ []
  pub silent : IsShowNext next → ⊥

pub quiet-none : (content : Content) (done next : List Action) → done ≡ [] → (IsShowNext next → ⊥) →
    IsQuietAt content (content_after done content) (shown done) next
quiet-none content done next e none = record { files = ap (λ xs. content_after xs content) e; out = ap shown e; silent = none }

-- in this case nothing was changed or printed
pub unchanged-by : (plan : List Action) (status : ℕ) (old new : Outside) → IsTrue new.files.told → IsUnlinked plan →
    (d : Reached plan status old new) →
    IsQuietAt old.files.content (content_after d.done old.files.content) (shown d.done) d.begun.rest → IsUnchanged status old new
unchanged-by plan status old new told unlinked d quiet = record {
  files = d.ran.files ∙ quiet.files;
  out = d.ran.out ∙ ap (λ bytes. old.out.bytes ++ bytes) quiet.out ∙ append-nil old.out.bytes;
  wire = same-traffic plan status old new unlinked d;
  no_link = no-link plan status old new unlinked d;
  no_output = λ e. quiet.silent (d.at_output e);
}

-- a file was created and is empty, nothing was printed, and the next action doesn't print
pub record IsMadeAt (file : Option (List ℕ)) (bytes : List ℕ) (next : List Action) : Type 0 where
  pub made : file ≡ Some []
  pub out : bytes ≡ []
  pub silent : IsShowNext next → ⊥

-- nothing was done, or the file was created, or the turns were done up to this point
unfoldable pub IsStopped : List ℕ → List Turn → Content → Content → List ℕ → List Action → Type 0
IsStopped played turns content c bytes next =
    IsQuietAt content c bytes next ⊎ (IsMadeAt (c played) bytes next ⊎ IsUpTo turns [] (c played) bytes next)

made-one : (played : List ℕ) (content : Content) (done next : List Action) → done ≡ create played ∷ [] → (IsShowNext next → ⊥) →
    IsMadeAt (content_after done content played) (shown done) next
made-one played content done next e none = record {
  made = ap (λ xs. content_after xs content played) e ∙ put_at-same content played [];
  out = ap shown e;
  silent = none;
}

-- what was done of both
pub stopped-played : (played : List ℕ) (turns : List Turn) (content : Content) (done : List Action)
    (b : Begun (create played ∷ turns_actions played turns) done) →
    IsStopped played turns content (content_after done content) (shown done) b.rest
unfolding IsStopped
stopped-played played turns content done b =
    elim (Begun-first (create played) (turns_actions played turns) done b) [
      | inl e ↦ inl (quiet-none content done b.rest e.0 (λ h. subst IsShowNext e.1 h))
      | inr two ↦ elim two [
        | inl part ↦
            inr (inl (made-one played content done b.rest (part.1 ∙ ap (λ a. a ∷ []) (part-create part.0 played part.2))
            (λ h. subst IsShowNext part.3 h)))
        | inr m ↦ elim (up-to played [] turns (created content played) m.0 (put_at-same content played []) m.2) [
          | inl e ↦
              inr (inl (made-one played content done b.rest (m.1 ∙ ap (λ xs. create played ∷ xs) e.1)
              (λ h. subst IsShowNext (sym m.3 ∙ e.2) h)))
          | inr u ↦
              inr (inr (subst (λ xs. IsUpTo turns [] (content_after xs content played) (shown xs) b.rest) (sym m.1)
              (subst (λ next. IsUpTo turns [] (content_after m.0 (created content played) played) (shown m.0) next) m.3 u)))
        ]
      ]
    ]
