-- What files hold after findings were written, in whole or in part.
use Rattle.std.proofs.Common.{◌≡◌, ◌≢◌, ◌⊎◌, ℕ, ◌+◌, ◌≤◌, ◌<◌, List, [], ◌∷◌, ◌++◌, Option, None, Some, IfSome, refl, sym, ap, ◌∙◌, subst, inl, inr, map, take, length, append-nil, arith}
use Rattle.std.proofs.Math.Seq.{take-length}
use Rattle.std.specs.List.{AllByRecursion, concat}
use Rattle.bar_outside.specs.Disk.{Content, CreatedFiles, Failure, created, with_file}
use Rattle.bar_outside.specs.Plan.{Action, Begun, CanRun, IsShowNext, Names, Touches, content_after, shown}
use Rattle.bar_outside.specs.Plan.Action.{create, append}
use Rattle.bar_outside.proofs.ActionLists.{Begun-both, Begun-first, Begun-none, Begun-whole, no-next, content_after-append, shown-append, part-create, show-next, with_file-same}
use Rattle.bar_outside.proofs.Appends.{appends-same, begun-appends, can-appends, named-appends, no-show, shown-appends, touched-appends}
use Rattle.bar_outside.proofs.Contents.{put_at-same}
use Rattle.bar_outside.proofs.Unlinked.{IsUnlinked, unlinked-append, unlinked-appends}
use Rattle.bar_outside.proofs.Untouched.{Touches-begun, Touches-split, content-untouched}
use Rattle.bar_judge.specs.TableFile.{table_bytes}
use Rattle.bar_wire.specs.Grammar.{entry as entry_bytes}
use Rattle.bar_laws.proofs.Logs.{all-map}
use Rattle.bar_findings.specs.Findings.{Finding, Found, IsWriteTo, IsWrittenUpTo, bytes_of, evidence_name, file_of, finding_actions, findings_actions, findings_of, in_order, table_name}
use Rattle.bar_findings.proofs.Lists.{all-at, all-joined, all-rest}
use Rattle.bar_findings.proofs.Names.{AreDistinct}

-- each file is created before it is appended to
pub can-write : (findings : List Finding) (here : CreatedFiles) → CanRun (findings_actions findings) here
can-write [] here = tt
can-write (f ∷ fs) here =
    let made : CreatedFiles = with_file here f.name in
    can-appends f.name f.pieces (findings_actions fs) made (with_file-same here f.name) (can-write fs made)

-- nothing is printed
pub shown-findings : (findings : List Finding) → shown (findings_actions findings) ≡ []
shown-findings [] = refl
shown-findings (f ∷ fs) =
    shown-append (map (append f.name) f.pieces) (findings_actions fs)
    ∙ ap (λ bytes. bytes ++ shown (findings_actions fs)) (shown-appends f.name f.pieces) ∙ shown-findings fs

-- nothing is done over the link
pub unlinked-findings : (findings : List Finding) → IsUnlinked (findings_actions findings)
unlinked-findings [] = tt
unlinked-findings (f ∷ fs) =
    unlinked-append (map (append f.name) f.pieces) (findings_actions fs) (unlinked-appends f.name f.pieces) (unlinked-findings fs)

-- ---- which files are touched, and by which calls

touched-finding : (f : Finding) (path : List ℕ) → Touches (finding_actions f) path → path ≡ f.name
touched-finding f path (inl e) = e
touched-finding f path (inr h) =
    elim (touched-appends f.name f.pieces [] path (subst (λ plan. Touches plan path) (sym (append-nil (map (append f.name) f.pieces))) h)) [
      | inl e ↦ e
      | inr none ↦ absurd none
    ]

pub touched-findings : (P : List ℕ → Type 0) (findings : List Finding) (path : List ℕ) → AllByRecursion (λ f. P f.name) findings →
    Touches (findings_actions findings) path → P path
touched-findings P [] path all h = absurd h
touched-findings P (f ∷ fs) path all h =
    elim (Touches-split (finding_actions f) (findings_actions fs) path h) [
      | inl now ↦ subst P (sym (touched-finding f path now)) all.0
      | inr later ↦ touched-findings P fs path all.1 later
    ]

pub named-findings : (P : List ℕ → Type 0) (findings : List Finding) (call : Failure) → AllByRecursion (λ f. P f.name) findings →
    Names (findings_actions findings) call → (path : List ℕ) × P path × IsWriteTo path call
named-findings P [] call all h = absurd h
named-findings P (f ∷ fs) call all (inl e) = (f.name, all.0, inl e)
named-findings P (f ∷ fs) call all (inr h) =
    elim (named-appends f.name f.pieces (findings_actions fs) call h) [
      | inl e ↦ (f.name, all.0, inr e)
      | inr later ↦ named-findings P fs call all.1 later
    ]

-- ---- what the files hold after everything was written

pub unwritten : (findings : List Finding) (content : Content) (path : List ℕ) → AllByRecursion (λ f. f.name ≢ path) findings →
    content_after (findings_actions findings) content path ≡ content path
unwritten findings content path others =
    content-untouched (findings_actions findings) content path
    (λ h. touched-findings (λ name. name ≢ path) findings path others h refl)

-- a file that was written, if the following files have other names
first-written : (f : Finding) (content : Content) → content_after (finding_actions f) content f.name ≡ Some (bytes_of f)
first-written f content = appends-same f.name [] f.pieces (created content f.name) (put_at-same content f.name [])

pub all-written : (findings : List Finding) (content : Content) → AreDistinct findings →
    AllByRecursion (λ f. content_after (findings_actions findings) content f.name ≡ Some (bytes_of f)) findings
all-written [] content distinct = tt
all-written (f ∷ fs) content distinct =
    let behind : (c : Content) → c ≡ content_after (finding_actions f) content →
    AllByRecursion (λ g. content_after (findings_actions fs) c g.name ≡ Some (bytes_of g)) fs =
    λ c e. all-written fs c distinct.1 in
    let split = content_after-append (finding_actions f) (findings_actions fs) content in (
      ap (λ (c : Content). c f.name) split
          ∙ unwritten fs (content_after (finding_actions f) content) f.name distinct.0
          ∙ first-written f content,
      subst (λ (c : Content). AllByRecursion (λ g. c g.name ≡ Some (bytes_of g)) fs) (sym split)
          (behind (content_after (finding_actions f) content) refl),
    )

-- ---- what was done of the findings

no-show-in : (f : Finding) (front rest : List Action) → finding_actions f ≡ front ++ rest → IsShowNext rest → ⊥
no-show-in f [] rest p h = subst IsShowNext (sym p) h
no-show-in f (x ∷ xs) rest p h = let q : map (append f.name) f.pieces ≡ xs ++ rest = cc in no-show f.name f.pieces xs rest q h

-- no action of the findings prints
pub silent-findings : (findings : List Finding) (done : List Action) (b : Begun (findings_actions findings) done) → IsShowNext b.rest → ⊥
silent-findings [] done b h = subst IsShowNext (no-next done b) h
silent-findings (f ∷ fs) done b h =
    elim (Begun-both (finding_actions f) (findings_actions fs) done b) [
      | inl m ↦
          no-show-in f m.2.front m.2.rest m.2.plan_is
          (subst IsShowNext (sym m.3) (show-next m.0 (m.1 ++ findings_actions fs) m.1 (subst IsShowNext m.4 h)))
      | inr m ↦ silent-findings fs m.0 m.2 (subst IsShowNext (sym m.3) h)
    ]

shown-create : (path : List ℕ) (more : List Action) → shown (create path ∷ more) ≡ shown more
shown-create path more = refl

-- what was done for one file: it is unchanged, or contains a prefix of its bytes
begun-finding : (f : Finding) (content : Content) (done : List Action) → Begun (finding_actions f) done →
    ((content_after done content f.name ≡ content f.name)
    ⊎ ((k : ℕ) × (content_after done content f.name ≡ Some (take k (bytes_of f))))) × (shown done ≡ [])
begun-finding f content done b =
    elim (Begun-first (create f.name) (map (append f.name) f.pieces) done b) [
      | inl e ↦ (inl (ap (λ xs. content_after xs content f.name) e.0), ap shown e.0)
      | inr two ↦ elim two [
        | inl part ↦
            let is : done ≡ create f.name ∷ [] = part.1 ∙ ap (λ a. a ∷ []) (part-create part.0 f.name part.2) in (
              inr (0, ap (λ xs. content_after xs content f.name) is ∙ put_at-same content f.name []),
              ap shown is,
            )
        | inr m ↦
            let p = begun-appends f.name [] f.pieces (created content f.name) m.0 (put_at-same content f.name []) m.2 in (
              inr (p.0, ap (λ xs. content_after xs content f.name) m.1 ∙ p.1),
              ap shown m.1 ∙ p.2,
            )
      ]
    ]

-- what was done for one file changes no other file
begun-other : (f : Finding) (content : Content) (done : List Action) (path : List ℕ) → Begun (finding_actions f) done → path ≢ f.name →
    content_after done content path ≡ content path
begun-other f content done path b differs =
    content-untouched done content path (λ h. differs (touched-finding f path (Touches-begun (finding_actions f) done path b h)))

pub begun-others : (findings : List Finding) (content : Content) (done : List Action) (path : List ℕ) → Begun (findings_actions findings) done →
    AllByRecursion (λ f. f.name ≢ path) findings → content_after done content path ≡ content path
begun-others findings content done path b others =
    content-untouched done content path
    (λ h. touched-findings (λ name. name ≢ path) findings path others (Touches-begun (findings_actions findings) done path b h) refl)

-- one file was written, and the following files up to some point
behind-finding : (f : Finding) (fs : List Finding) (content new : Content) → AllByRecursion (λ g. g.name ≢ f.name) fs →
    new f.name ≡ Some (bytes_of f) → IsWrittenUpTo fs (content_after (finding_actions f) content) new → IsWrittenUpTo (f ∷ fs) content new
behind-finding f fs content new differ whole w =
    let mid : Content = content_after (finding_actions f) content in
    let same = λ (g : Finding) (d : g.name ≢ f.name). begun-other f content (finding_actions f) g.name (Begun-whole (finding_actions f)) d in
    let behind : AllByRecursion (λ g. g.name ≢ f.name) (w.this ∷ w.later) =
    all-rest (λ g. g.name ≢ f.name) w.earlier (w.this ∷ w.later) (subst (AllByRecursion (λ g. g.name ≢ f.name)) w.is differ) in
    record {
      earlier = f ∷ w.earlier;
      this = w.this;
      later = w.later;
      is = ap (λ xs. f ∷ xs) w.is;
      whole = (whole, w.whole);
      part = elim w.part [ inl as_was ↦ inl (as_was ∙ same w.this behind.0) | inr front ↦ inr front ];
      others = all-joined (λ g. new g.name ≡ mid g.name) (λ g. g.name ≢ f.name) (λ g. new g.name ≡ content g.name) w.later
          (λ g e d. e ∙ same g d) w.others behind.1;
    }

-- what was done for all files
pub written-front : (findings : List Finding) (content : Content) (done : List Action) → AreDistinct findings →
    Begun (findings_actions findings) done →
    ((findings ≡ []) × (done ≡ [])) ⊎ (IsWrittenUpTo findings content (content_after done content) × (shown done ≡ []))
written-front [] content done distinct b = inl (refl, Begun-none done b)
written-front (f ∷ fs) content done distinct b =
    elim (Begun-both (finding_actions f) (findings_actions fs) done b) [
      | inl m ↦
          let now = begun-finding f content done m.2 in
          inr (
            record {
              earlier = [];
              this = f;
              later = fs;
              is = refl;
              whole = tt;
              part = now.0;
              others = all-map (λ g. g.name ≢ f.name) (λ g. content_after done content g.name ≡ content g.name) fs
                  (λ g d. begun-other f content done g.name m.2 d) distinct.0;
            },
            now.1,
          )
      | inr m ↦
          let mid : Content = content_after (finding_actions f) content in
          let after : content_after done content ≡ content_after m.0 mid =
          ap (λ xs. content_after xs content) m.1 ∙ content_after-append (finding_actions f) m.0 content in
          let whole : content_after done content f.name ≡ Some (bytes_of f) =
          ap (λ (c : Content). c f.name) after ∙ begun-others fs mid m.0 f.name m.2 distinct.0 ∙ first-written f content in
          let quiet = λ (e : shown m.0 ≡ []). ap shown m.1 ∙ shown-append (finding_actions f) m.0
          ∙ ap (λ bytes. bytes ++ shown m.0) (shown-appends f.name f.pieces) ∙ e in
          elim (written-front fs mid m.0 distinct.1 m.2) [
            | inl none ↦
                inr (
                  record {
                    earlier = [];
                    this = f;
                    later = fs;
                    is = refl;
                    whole = tt;
                    part = inr (length (bytes_of f), whole ∙ ap Some (sym (take-length (bytes_of f))));
                    others = subst (AllByRecursion (λ g. content_after done content g.name ≡ content g.name)) (sym none.0) tt;
                  },
                  quiet (ap shown none.1),
                )
            | inr w ↦
                inr (
                  behind-finding f fs content (content_after done content) distinct.0 whole
                      (subst (λ (c : Content). IsWrittenUpTo fs mid c) (sym after) w.0),
                  quiet w.1,
                )
          ]
    ]

-- the same relative to earlier content with the same files
pub written-since : (findings : List Finding) (old mid new : Content) → AllByRecursion (λ f. mid f.name ≡ old f.name) findings →
    IsWrittenUpTo findings mid new → IsWrittenUpTo findings old new
written-since findings old mid new same w =
    let behind : AllByRecursion (λ f. mid f.name ≡ old f.name) (w.this ∷ w.later) =
    all-rest (λ f. mid f.name ≡ old f.name) w.earlier (w.this ∷ w.later) (subst (AllByRecursion (λ f. mid f.name ≡ old f.name)) w.is same) in
    record {
      earlier = w.earlier;
      this = w.this;
      later = w.later;
      is = w.is;
      whole = w.whole;
      part = elim w.part [ inl as_was ↦ inl (as_was ∙ behind.0) | inr front ↦ inr front ];
      others = all-joined (λ f. new f.name ≡ mid f.name) (λ f. mid f.name ≡ old f.name) (λ f. new f.name ≡ old f.name) w.later
          (λ f e d. e ∙ d) w.others behind.1;
    }

-- ---- the table, and the evidence against one party

table-bytes : (manifests : List (List ℕ)) → concat (map entry_bytes manifests) ≡ table_bytes manifests
table-bytes [] = refl
table-bytes (m ∷ ms) = ap (λ bytes. entry_bytes m ++ bytes) (table-bytes ms)

abbrev pub AreWritten : List Finding → Content → Type 0
AreWritten findings content = AllByRecursion (λ f. content f.name ≡ Some (bytes_of f)) findings

pub table-there : (found : List ℕ) (manifests : Found) (rounds : ℕ) (evidence : Found) (parties : ℕ) (content : Content) →
    AreWritten (findings_of found manifests rounds evidence parties) content →
    content (table_name found) ≡ Some (table_bytes (in_order manifests rounds))
table-there found manifests rounds evidence parties content all = all.0 ∙ ap Some (table-bytes (in_order manifests rounds))

of-one : (name : List ℕ) (o : Option (List ℕ)) (content : Content) → AreWritten (file_of name o) content →
    IfSome o (λ kept. content name ≡ Some kept)
of-one name None content all = tt
of-one name (Some kept) content all = all.0 ∙ ap Some (append-nil kept)

pub evidence-there : (found : List ℕ) (manifests : Found) (rounds : ℕ) (evidence : Found) (parties : ℕ) (content : Content) →
    AreWritten (findings_of found manifests rounds evidence parties) content → (party : ℕ) → 1 ≤ party → party ≤ parties →
    IfSome (evidence party) (λ kept. content (evidence_name found party) ≡ Some kept)
evidence-there found manifests rounds evidence parties content all party low high =
    let below : party < 1 + parties = omega arith in
    of-one (evidence_name found party) (evidence party) content
    (all-at (λ f. content f.name ≡ Some (bytes_of f)) (λ q. file_of (evidence_name found q) (evidence q)) 1 parties party all.1 low below)
