-- How far a command got, by the parts of its plan.
use Rattle.std.proofs.Common.{◌≡◌, ◌⊎◌, ℕ, List, [], ◌∷◌, ◌++◌, Option, None, Some, Result, Ok, Err, IsSomeAnd, true, false, refl, sym, ap, ◌∙◌, subst, IsTrue, inl, inr, length, take, append-nil, true≢false}
use Rattle.std.proofs.lemmas.Bool.{cases_Bool}
use Rattle.std.proofs.Math.Seq.{take-length}
use Rattle.bar_outside.specs.Code.Causes.{Rose}
use Rattle.bar_outside.specs.Disk.{Content, Failure, readable}
use Rattle.bar_outside.specs.declared.files.CallKind.TheVariants.{Read}
use Rattle.bar_outside.specs.Plan.{Outside, Action, Plan, Ran, Reached, Begun, IsPartOf, IsPartOfNext, IsShowNext, IsFilesNext, IsLinkNext, Names, ending, doing, read_then, is_stop, content_after, shown, traffic_after}
use Rattle.bar_outside.specs.Plan.Action.{read, create, append, show, link}
use Rattle.bar_outside.specs.Ends.{Carried, Ends, OfEachEnd, UnlessStopped}
use Rattle.bar_outside.specs.Stages.{Stages, Went, IsUnchanged, WentOn, ReadsFirst, EndsThere, ShowsThere, NamesFirst, ComesTo, EachStage, Gone, GoesInOrder, IsCallOf, IsAccepted, IsRefused, SaysItsLine, accepts, plan_by, refuses, stage}
use Rattle.bar_outside.specs.Stages.Stages.{reads, does}
use Rattle.bar_outside.proofs.ActionLists.{Begun-first, Begun-none, Reached-whole, no-next, no-part-read}
use Rattle.bar_outside.proofs.Ending.{line_at-else, no_stop}
use Rattle.bar_outside.proofs.Unlinked.{same-traffic, stop-cases}

-- nothing was done
undone : (status : ℕ) (old new : Outside) (plan : List Action) (r : Reached plan status old new) → IsTrue new.files.told → r.done ≡ [] →
    (status ≡ 6 → ⊥) →
    (status ≡ 7 → ⊥) → IsUnchanged status old new
undone status old new plan r told none unlinked quiet = record {
  files = r.ran.files ∙ ap (λ xs. content_after xs old.files.content) none;
  out = r.ran.out ∙ ap (λ xs. old.out.bytes ++ shown xs) none ∙ append-nil old.out.bytes;
  wire = r.ran.wire ∙ ap (λ xs. traffic_after xs old.wire.traffic) none;
  no_link = unlinked;
  no_output = quiet;
}

-- there was nothing to do
undone-none : (status : ℕ) (old new : Outside) → IsTrue new.files.told → Reached [] status old new → IsUnchanged status old new
undone-none status old new told r =
    undone status old new [] r told (Begun-none r.done r.begun) (λ e. subst IsLinkNext (no-next r.done r.begun) (r.at_link e))
    (λ e. subst IsShowNext (no-next r.done r.begun) (r.at_output e))

-- nothing was done, or the read and then a part of the rest
behind-read : (path : List ℕ) (rest : List Action) (status : ℕ) (old new : Outside) → IsTrue new.files.told →
    Reached (read path ∷ rest) status old new →
    IsUnchanged status old new ⊎ Reached rest status old new
behind-read path rest status old new told r =
    by_front r.begun.front r.begun.part r.begun.rest r.begun.plan_is r.begun.done_is r.begun.part_is refl
  where
    by_front : (front part next : List Action) → read path ∷ rest ≡ front ++ next → r.done ≡ front ++ part → IsPartOfNext part next →
        r.begun.rest ≡ next → IsUnchanged status old new ⊎ Reached rest status old new
    by_front [] [] next p d h n =
        inl (undone status old new (read path ∷ rest) r told d (λ e. subst IsLinkNext (n ∙ sym p) (r.at_link e))
        (λ e. subst IsShowNext (n ∙ sym p) (r.at_output e)))
    by_front [] (x ∷ []) [] p d h n = absurd h
    by_front [] (x ∷ []) (y ∷ ys) p d h n = let e : y ≡ read path = cc in absurd (no-part-read x path (subst (IsPartOf x) e h))
    by_front [] (x ∷ z ∷ zs) next p d h n = absurd h
    by_front (x ∷ xs) part next p d h n =
        let e : x ≡ read path = cc in
        let q : rest ≡ xs ++ next = cc in
        let ran = subst (λ acts. Ran acts old new) (d ∙ ap (λ a. a ∷ (xs ++ part)) e) r.ran in
        inr (record {
          done = xs ++ part;
          begun = record { front = xs; part = part; rest = next; plan_is = q; done_is = refl; part_is = h };
          ran = record { files = ran.files; out = ran.out; wire = ran.wire };
          at_file = λ f. subst IsFilesNext n (r.at_file f);
          at_link = λ f. subst IsLinkNext n (r.at_link f);
          at_output = λ f. subst IsShowNext n (r.at_output f);
        })

-- a plan whose own status is a stop was stopped
stopped-there : (plan : Plan) (old new : Outside) (status : ℕ) → is_stop plan.status ≡ true → Went plan old new status → is_stop status ≡ true
stopped-there plan old new status stop w =
    elim (cases_Bool (is_stop status)) [ inl stopped ↦ stopped | inr go ↦ absurd (no_stop plan.status stop status go (w.carried go).is) ]

pub reads_first : ReadsFirst
reads_first path others old new status told w = by_content (readable old.files.content path) refl w
  where
    by_content : (o : Option (List ℕ)) → readable old.files.content path ≡ o → Went (read_then path others old.files.content o) old new status →
        (IsUnchanged status old new × (is_stop status ≡ true)) ⊎ WentOn path others old new status
    by_content None e w =
        let stop = stopped-there (read_then path others old.files.content None) old new status refl w in
        elim (behind-read path [] status old new told w.part) [
          | inl same ↦ inl (same, stop)
          | inr r ↦ inl (undone-none status old new told r, stop)
        ]
    by_content (Some bytes) e w =
        elim (cases_Bool (is_stop status)) [
          | inr go ↦
              let c = w.carried go in
              let ran : Ran (others bytes old.files.content).actions old new =
              record { files = c.ran.files; out = c.ran.out; wire = c.ran.wire } in
              inr (record {
                bytes = bytes;
                read = e;
                rest = record {
                  carried = λ go. record { is = c.is; ran = ran };
                  part =
                      Reached-whole (others bytes old.files.content).actions status old new (no_stop 3 refl status go)
                      (no_stop 6 refl status go) (no_stop 7 refl status go) ran;
                };
              })
          | inl stop ↦ elim (behind-read path (others bytes old.files.content).actions status old new told w.part) [
            | inl same ↦ inl (same, stop)
            | inr r ↦ inr (record { bytes = bytes; read = e; rest = record { carried = λ go. absurd (true≢false (sym stop ∙ go)); part = r } })
          ]
        ]

-- the plan ended with its own status, or was stopped
unless_stopped : (plan : Plan) (old new : Outside) (status : ℕ) → Went plan old new status → UnlessStopped plan.status status
unless_stopped plan old new status w = elim (cases_Bool (is_stop status)) [ inl stop ↦ inr stop | inr go ↦ inl (w.carried go).is ]

pub ends_there : EndsThere
ends_there final line old new status told w =
    (undone-none status old new told w.part, unless_stopped (ending final line old.files.content) old new status w)

-- a partial write of a line prints a prefix of it
pub part-shown : (line : List ℕ) (part : Action) → IsPartOf part (show line) →
    (k : ℕ) × (shown (part ∷ []) ≡ take k line) × ((c : Content) → content_after (part ∷ []) c ≡ c)
part-shown line (show bytes) h = (h.0, append-nil bytes ∙ h.1, λ c. refl)
part-shown line (read path) h = absurd h
part-shown line (create path) h = absurd h
part-shown line (append path bytes) h = absurd h
part-shown line (link call) h = absurd h

-- what was done of printing a line
begun-shown : (line : List ℕ) (done : List Action) → Begun (show line ∷ []) done →
    (k : ℕ) × (shown done ≡ take k line) × ((c : Content) → content_after done c ≡ c)
begun-shown line done b =
    elim (Begun-first (show line) [] done b) [
      | inl e ↦ (0, ap shown e.0, λ c. ap (λ xs. content_after xs c) e.0)
      | inr rest ↦ elim rest [
        | inl part ↦
            let p = part-shown line part.0 part.2 in (p.0, ap shown part.1 ∙ p.1, λ c. ap (λ xs. content_after xs c) part.1 ∙ p.2 c)
        | inr more ↦
            let e : done ≡ show line ∷ [] = more.1 ∙ ap (λ xs. show line ∷ xs) (Begun-none more.0 more.2) in
            (length line, ap shown e ∙ append-nil line ∙ sym (take-length line), λ c. ap (λ xs. content_after xs c) e)
      ]
    ]

pub shows_there : ShowsThere
shows_there line final said old new status told w =
    let b = begun-shown line w.part.done w.part.begun in
    record {
      files = w.part.ran.files ∙ b.2 old.files.content;
      wire = same-traffic (show line ∷ []) status old new tt w.part;
      front = (b.0, w.part.ran.out ∙ ap (λ xs. old.out.bytes ++ xs) b.1);
      whole = λ go. (w.carried go).ran.out ∙ ap (λ xs. old.out.bytes ++ xs) (append-nil line);
      ended = unless_stopped (doing (show line ∷ []) final said old.files.content) old new status w;
    }

pub names_first : NamesFirst
names_first path others content call h = by_content (readable content path) refl h
  where
    by_content : (o : Option (List ℕ)) → readable content path ≡ o → Names (read_then path others content o).actions call →
        (call ≡ record { kind = Read; path = path })
        ⊎ ((bytes : List ℕ) × (readable content path ≡ Some bytes) × Names (others bytes content).actions call)
    by_content None e (inl one) = inl one
    by_content None e (inr none) = absurd none
    by_content (Some bytes) e (inl one) = inl one
    by_content (Some bytes) e (inr rest) = inr (bytes, e, rest)

-- ---- stages

pub gone-stages : (stages : Stages) (old new : Outside) (status : ℕ) → IsTrue new.files.told →
    Went (plan_by stages old.files.content) old new status → Gone stages old new status
gone-stages (does end) old new status told w = inr (end, refl, w)
gone-stages (reads path others) old new status told w =
    elim (reads_first path (λ bytes. plan_by (others bytes)) old new status told w) [
      | inl same ↦ inl same
      | inr on ↦ elim (gone-stages (others on.bytes) old new status told on.rest) [
        | inl same ↦ inl same
        | inr end ↦ inr (end.0, (on.bytes, on.read, end.1), end.2)
      ]
    ]

-- the plan has the status and the line of the end to which the stages lead

pub status-comes : (stages : Stages) (content : Content) (end : Plan) → ComesTo stages content end →
    (plan_by stages content).status ≡ end.status
status-comes (does last) content end c = ap (λ (p : Plan). p.status) c
status-comes (reads path others) content end c =
    ap (λ o. (read_then path (λ bytes. plan_by (others bytes)) content o).status) c.1 ∙ status-comes (others c.0) content end c.2

line-comes : (stages : Stages) (content : Content) (end : Plan) → ComesTo stages content end → (plan_by stages content).line ≡ end.line
line-comes (does last) content end c = ap (λ (p : Plan). p.line) c
line-comes (reads path others) content end c =
    ap (λ o. (read_then path (λ bytes. plan_by (others bytes)) content o).line) c.1 ∙ line-comes (others c.0) content end c.2

pub says_its_line : SaysItsLine
says_its_line stages content end c go =
    line_at-else (plan_by stages content) end.status go ∙ line-comes stages content end c

-- the calls of the plan are those of the stages
calls-stages : (stages : Stages) (content : Content) (call : Failure) → Names (plan_by stages content).actions call → IsCallOf stages call
calls-stages (does end) content call h = h
calls-stages (reads path others) content call h =
    elim (names_first path (λ bytes. plan_by (others bytes)) content call h) [
      | inl e ↦ inl e
      | inr more ↦ inr (more.0, calls-stages (others more.0) content call more.2)
    ]

calls-some : (stages : Stages) (content : Content) (o : Option Failure) → IsSomeAnd o (Names (plan_by stages content).actions) →
    IsSomeAnd o (IsCallOf stages)
calls-some stages content (Some call) h = calls-stages stages content call h
calls-some stages content None h = h

-- if no fault count rose, a plan with this status was carried out to its end
done-so : (plan : Content → Plan) (old new : Outside) (status final : ℕ) → Ends plan old new status → IsTrue new.files.told →
    (plan old.files.content).status ≡ final → (Rose old.files.faults new.files.faults → ⊥) → (Rose old.out.faults new.out.faults → ⊥) →
    (Rose old.wire.faults new.wire.faults → ⊥) → (status ≡ final) ⊎ (status ≡ 70)
done-so plan old new status final ends told same no_file no_output no_link =
    elim (cases_Bool (is_stop status)) [
      | inr go ↦ inl ((ends.carried told go).is ∙ same)
      | inl stop ↦ elim (stop-cases status stop) [
        | inl file ↦ absurd (no_file (ends.file_rose file))
        | inr more ↦ elim more [
          | inl wire ↦ absurd (no_link (ends.link_rose wire))
          | inr others ↦ elim others [ inl output ↦ absurd (no_output (ends.output_rose output)) | inr memory ↦ inr memory ]
        ]
      ]
    ]

pub goes_in_order : (stages : Stages) → OfEachEnd (plan_by stages) (GoesInOrder stages)
goes_in_order stages old new status ends told =
    let w : Went (plan_by stages old.files.content) old new status = record { carried = ends.carried told; part = ends.part told } in
    record {
      gone = gone-stages stages old new status told w;
      stopped = λ end c.
          subst (λ final. UnlessStopped final status) (status-comes stages old.files.content end c)
          (unless_stopped (plan_by stages old.files.content) old new status w);
      without_faults = λ end c.
          done-so (plan_by stages) old new status end.status ends told (status-comes stages old.files.content end c);
      reliable = λ end c reliable.
          subst (λ final. (status ≡ final) ⊎ (status ≡ 70)) (status-comes stages old.files.content end c) (ends.complete reliable told);
      named = λ e. calls-some stages old.files.content new.files.failed (ends.file_named e told);
    }

-- ---- consequences for a command made of stages

-- what was read was accepted or refused
pub comes-accepts : {A E : Type 0} (r : Result A E) (others : A → Stages) (refused : E → Stages) (content : Content) (end : Plan) →
    ComesTo (accepts r others refused) content end →
    ((meant : A) × (r ≡ Ok meant) × ComesTo (others meant) content end) ⊎ ((fault : E) × (r ≡ Err fault) × ComesTo (refused fault) content end)
comes-accepts (Ok meant) others refused content end c = inl (meant, refl, c)
comes-accepts (Err fault) others refused content end c = inr (fault, refl, c)

pub each-accepts : {A E : Type 0} (P : List ℕ → Type 0) (Q : Plan → Type 0) (r : Result A E) (others : A → Stages) (refused : E → Stages) →
    ((meant : A) → EachStage P Q (others meant)) → ((fault : E) → EachStage P Q (refused fault)) → EachStage P Q (accepts r others refused)
each-accepts P Q (Ok meant) others refused h k = h meant
each-accepts P Q (Err fault) others refused h k = k fault

-- each call is a read of a file with property P, or a call of an end with property Q
pub each-call : (P : List ℕ → Type 0) (Q : Plan → Type 0) (stages : Stages) (call : Failure) → EachStage P Q stages → IsCallOf stages call →
    ((path : List ℕ) × P path × (call ≡ record { kind = Read; path = path })) ⊎ ((end : Plan) × Q end × Names end.actions call)
each-call P Q (does end) call h k = inr (end, h, k)
each-call P Q (reads path others) call h (inl e) = inl (path, h.0, e)
each-call P Q (reads path others) call h (inr more) = each-call P Q (others more.0) call (h.1 more.0) more.1

-- a stage was accepted, and the following stages lead to the end; or it was refused, and this is the end
pub comes-stage : {A E : Type 0} (path : List ℕ) (meaning : List ℕ → Result A E) (status : ℕ) (line : E → List ℕ) (others : A → Stages)
    (content : Content) (end : Plan) → ComesTo (stage path meaning status line others) content end →
    ((meant : A) × IsAccepted path meaning content meant × ComesTo (others meant) content end)
    ⊎ ((fault : E) × IsRefused path meaning content fault × ComesTo (refuses status (line fault)) content end)
comes-stage path meaning status line others content end c =
    elim (comes-accepts (meaning c.0) others (λ fault. refuses status (line fault)) content end c.2) [
      | inl more ↦ inl (more.0, record { bytes = c.0; read = c.1; is = more.1 }, more.2)
      | inr bad ↦ inr (bad.0, record { bytes = c.0; read = c.1; is = bad.1 }, bad.2)
    ]

pub stage-comes : {A E : Type 0} (path : List ℕ) (meaning : List ℕ → Result A E) (status : ℕ) (line : E → List ℕ) (others : A → Stages)
    (content : Content) (meant : A) (end : Plan) → IsAccepted path meaning content meant → ComesTo (others meant) content end →
    ComesTo (stage path meaning status line others) content end
stage-comes path meaning status line others content meant end h c =
    (h.bytes, h.read, subst (λ r. ComesTo (accepts r others (λ fault. refuses status (line fault))) content end) (sym h.is) c)

pub stage-refused : {A E : Type 0} (path : List ℕ) (meaning : List ℕ → Result A E) (status : ℕ) (line : E → List ℕ) (others : A → Stages)
    (content : Content) (fault : E) → IsRefused path meaning content fault →
    ComesTo (stage path meaning status line others) content (record { actions = []; status = status; line = line fault })
stage-refused path meaning status line others content fault h = (
  h.bytes,
  h.read,
  subst (λ r. ComesTo (accepts r others (λ fault. refuses status (line fault))) content
      (record { actions = []; status = status; line = line fault })) (sym h.is) refl,
)

pub each-stage : {A E : Type 0} (P : List ℕ → Type 0) (Q : Plan → Type 0) (path : List ℕ) (meaning : List ℕ → Result A E) (status : ℕ)
    (line : E → List ℕ) (others : A → Stages) → P path →
    ((fault : E) → Q (record { actions = []; status = status; line = line fault })) → ((meant : A) → EachStage P Q (others meant)) →
    EachStage P Q (stage path meaning status line others)
each-stage P Q path meaning status line others h k more =
    (h, λ bytes. each-accepts P Q (meaning bytes) others (λ fault. refuses status (line fault)) more k)

-- ---- at a status that isn't a stop, and at the stops

-- the end to which the stages lead was carried out
pub end-carried : (stages : Stages) (old new : Outside) (status : ℕ) → is_stop status ≡ false → Gone stages old new status →
    (end : Plan) × ComesTo stages old.files.content end × Carried end old new status
end-carried stages old new status go (inl same) = absurd (true≢false (sym same.1 ∙ go))
end-carried stages old new status go (inr end) = (end.0, end.1, end.2.carried go)
