-- What a peer has played and recorded, completed or stopped.
use Rattle.std.proofs.Common.{◌≡◌, ◌≢◌, ℕ, ◌+◌, Bool, true, false, cond, eqb, eq-eqb, List, [], ◌∷◌, ◌++◌, length, refl, sym, ap, ◌∙◌, subst, inl, inr, append-nil, IsTrue, Some}
use Rattle.std.specs.List.{AllByRecursion, concat, flat_map}
use Rattle.std.proofs.lemmas.Grind.{flat_map-append}
use Rattle.std.proofs.lemmas.List.Folds.{concat-append}
use Rattle.bar_wire.specs.Inputs.{Input}
use Rattle.bar_record.specs.Recording.{entry_bytes}
use Rattle.bar_outside.specs.Disk.{Content}
use Rattle.bar_outside.specs.Wire.{Arrival}
use Rattle.bar_outside.specs.Plan.{Action, Begun, Outside, Ran}
use Rattle.bar_outside.specs.Plan.Action.{append}
use Rattle.bar_findings.specs.Findings.{IsFindingName}
use Rattle.bar_findings.proofs.Names.{finding-names}
use Rattle.bar_core.specs.Rules.{Rules}
use Rattle.bar_core.specs.Runs.{contents_over}
use Rattle.bar_laws.proofs.Logs.{all-map}
use Rattle.bar_node.specs.Code.Turns.{Layout, kept, node_layout, sent, turn}
use Rattle.bar_node.specs.Code.Effects.{added_by, added_in}
use Rattle.bar_node.specs.Runs.{behind, found_after, is_ended, node_plan, taken_of}
use Rattle.bar_node.specs.Stops.{AreApart, DonePeer, HasRun, IsAddedTo, IsApart, IsFront, StoppedPeer, end_of}
use Rattle.bar_node.proofs.TurnLists.{each-none}
use Rattle.bar_node.proofs.Yields.{Yields, cons-nil, front-behind, front-gives, front-none, front-of-none, over, run-gives}
use Rattle.bar_node.proofs.Cutting.{StopAt, given-part, given-whole}
use Rattle.bar_node.proofs.Behind.{GivesNone, behind-gives, behind-none}
use Rattle.bar_node.proofs.Stopping.{stopped-at}
use Rattle.bar_node.proofs.SentOver.{sent-until, sent-whole}
use Rattle.bar_node.proofs.AddedTo.{added-front, content-added, made-front, made_by, other-name}
use Rattle.bar_bytes.proofs.Tests.{bytes_eq-refl}

-- ---- what each turn appends to a file

abbrev plays_bytes : Rules → List Input → Input → List ℕ
plays_bytes r before input = concat (r.contents before input)

abbrev has_entry : List Input → Input → List ℕ
has_entry before input = entry_bytes input

abbrev makes_none : List Input → Input → List (Unit {0})
makes_none before input = []

over-plays : (r : Rules) (before inputs : List Input) → over (plays_bytes r) before inputs ≡ concat (contents_over r before inputs)
over-plays r before [] = refl
over-plays r before (x ∷ xs) =
    ap (λ ys. concat (r.contents before x) ++ ys) (over-plays r (before ++ x ∷ []) xs)
    ∙ sym (concat-append (r.contents before x) (contents_over r (before ++ x ∷ []) xs))

over-entries : (before inputs : List Input) → over has_entry before inputs ≡ flat_map entry_bytes inputs
over-entries before [] = refl
over-entries before (x ∷ xs) = ap (λ ys. entry_bytes x ++ ys) (over-entries (before ++ x ∷ []) xs)

over-none : (before inputs : List Input) → over makes_none before inputs ≡ []
over-none before [] = refl
over-none before (x ∷ xs) = over-none (before ++ x ∷ []) xs

module _ (recording played : List ℕ) where
  abbrev lay : Layout
  lay = node_layout (Some recording) (Some played)

  plays-same : (contents : List (List ℕ)) → added_in played (flat_map (kept (Some played)) contents) ≡ concat contents
  plays-same [] = refl
  plays-same (x ∷ xs) =
      ap (λ b. cond b x [] ++ added_in played (flat_map (kept (Some played)) xs)) (bytes_eq-refl played) ∙ ap (λ ys. x ++ ys) (plays-same xs)

  plays-other : played ≢ recording → (contents : List (List ℕ)) → added_in recording (flat_map (kept (Some played)) contents) ≡ []
  plays-other differ contents =
      each-none (added_by recording) (kept (Some played))
      (λ content. ap (λ b. cond b content [] ++ []) (other-name recording played (λ e. differ (sym e)))) contents

  -- what an input plays is appended to the played file, and its entry to the recording
  turn-adds : (path : List ℕ) (r : Rules) (before : List Input) (input : Input) →
      added_in path (turn lay r before input)
      ≡ added_by path (append recording (entry_bytes input)) ++ added_in path (flat_map (kept (Some played)) (r.contents before input))
  turn-adds path r before input =
      let plays : List Action = flat_map (kept (Some played)) (r.contents before input) in
      let sends : List Action = flat_map (sent (length before + 1)) (r.sends before input) in
      ap (λ ys. added_by path (append recording (entry_bytes input)) ++ ys)
      (flat_map-append (added_by path) plays sends
      ∙ ap (λ ys. added_in path plays ++ ys) (each-none (added_by path) (sent (length before + 1)) (λ send. refl) (r.sends before input))
      ∙ append-nil (added_in path plays))

  yields-played : played ≢ recording → (r : Rules) → Yields lay r (added_by played) (plays_bytes r)
  yields-played differ r = record {
    turn_is = λ before input.
        turn-adds played r before input
        ∙ ap (λ b. cond b (entry_bytes input) [] ++ added_in played (flat_map (kept (Some played)) (r.contents before input)))
        (other-name played recording differ)
        ∙ plays-same (r.contents before input);
    none = λ came. refl;
    front = added-front played;
  }

  yields-entries : played ≢ recording → (r : Rules) → Yields lay r (added_by recording) has_entry
  yields-entries differ r = record {
    turn_is = λ before input.
        turn-adds recording r before input
        ∙ ap (λ b. cond b (entry_bytes input) [] ++ added_in recording (flat_map (kept (Some played)) (r.contents before input)))
        (bytes_eq-refl recording)
        ∙ ap (λ ys. entry_bytes input ++ ys) (plays-other differ (r.contents before input))
        ∙ append-nil (entry_bytes input);
    none = λ came. refl;
    front = added-front recording;
  }

  -- no turn creates a file
  yields-made : (path : List ℕ) (r : Rules) → Yields lay r (made_by path) makes_none
  yields-made path r = record {
    turn_is = λ before input.
        flat_map-append (made_by path) (flat_map (kept (Some played)) (r.contents before input)) _
        ∙ ap (λ ys. ys ++ flat_map (made_by path) (flat_map (sent (length before + 1)) (r.sends before input)))
        (each-none (made_by path) (kept (Some played)) (λ content. refl) (r.contents before input))
        ∙ each-none (made_by path) (sent (length before + 1)) (λ send. refl) (r.sends before input);
    none = λ came. refl;
    front = made-front path;
  }

-- ---- what follows the turns

module _ (path found : List ℕ) (apart : IsApart path found) (r : Rules) (taken : List Input) where
  other-names : AllByRecursion (λ f. path ≢ f.name) (found_after found r taken)
  other-names =
      all-map (λ f. IsFindingName found f.name) (λ f. path ≢ f.name) (found_after found r taken)
      (λ f is. elim is [ inl e ↦ λ same. apart.table (same ∙ e) | inr p ↦ λ same. apart.evidence p.0 (same ∙ p.1) ])
      (finding-names found (r.manifest taken) r.rounds (r.evidence taken) r.peers)

  none-added : AllByRecursion (λ f. GivesNone (added_by path) f.name) (found_after found r taken)
  none-added =
      all-map (λ f. path ≢ f.name) (λ f. GivesNone (added_by path) f.name) (found_after found r taken)
      (λ f differ. (refl, λ bytes. ap (λ b. cond b bytes []) (other-name path f.name differ))) other-names

  none-made : AllByRecursion (λ f. GivesNone (made_by path) f.name) (found_after found r taken)
  none-made =
      all-map (λ f. path ≢ f.name) (λ f. GivesNone (made_by path) f.name) (found_after found r taken)
      (λ f differ. (ap (λ b. cond b (tt ∷ []) []) (other-name path f.name differ), λ bytes. refl)) other-names

-- ---- the content of a file after a stopped run

-- the longest common prefix of two lists
shared : List ℕ → List ℕ → List ℕ
shared [] ys = []
shared (x ∷ xs) [] = []
shared (x ∷ xs) (y ∷ ys) = cond (eqb x y) (y ∷ shared xs ys) []

one-more : (b : Bool) (y : ℕ) (front ys : List ℕ) → IsFront front ys → IsFront (cond b (y ∷ front) []) (y ∷ ys)
one-more true y front ys f = front-behind (y ∷ []) front ys f
one-more false y front ys f = front-none (y ∷ ys)

shared-front : (xs ys : List ℕ) → IsFront (shared xs ys) ys
unfolding shared
shared-front [] ys = front-none ys
shared-front (x ∷ xs) [] = front-none []
shared-front (x ∷ xs) (y ∷ ys) = one-more (eqb x y) y (shared xs ys) ys (shared-front xs ys)

-- if the first list is a prefix of the second, it is the common prefix
shared-same : (xs ys : List ℕ) → IsFront xs ys → shared xs ys ≡ xs
unfolding shared
shared-same [] ys f = refl
shared-same (x ∷ xs) [] f = absurd (cons-nil x (xs ++ f.rest) (sym f.is))
shared-same (x ∷ xs) (y ∷ ys) f =
    let e : y ≡ x = let is = f.is in cc in
    let rest : ys ≡ xs ++ f.rest = let is = f.is in cc in
    ap (λ b. cond b (y ∷ shared xs ys) []) (eq-eqb x y (sym e))
    ∙ ap (λ v. v ∷ shared xs ys) e
    ∙ ap (λ vs. x ∷ vs) (shared-same xs ys (record { rest = f.rest; is = rest }))

module _ (recording played found : List ℕ) (r : Rules) where
  abbrev the_lay : Layout
  the_lay = node_layout (Some recording) (Some played)

  abbrev the_tail : List Arrival → List Action
  the_tail given = behind (Some recording) found r given

  played-behind : (given : List Arrival) → played ≢ recording → IsApart played found → added_in played (the_tail given) ≡ []
  played-behind given differ apart =
      behind-none (added_by played) (Some recording) found r given refl (none-added played found apart r (taken_of r given))
      (ap (λ b. cond b (0 ∷ []) [] ++ []) (other-name played recording differ))

  recorded-behind : (given : List Arrival) → IsApart recording found → added_in recording (the_tail given) ≡ end_of r given
  recorded-behind given apart =
      behind-gives (added_by recording) (Some recording) found r given (0 ∷ []) refl (none-added recording found apart r (taken_of r given))
      (ap (λ b. cond b (0 ∷ []) [] ++ []) (bytes_eq-refl recording))

  made-behind : (path : List ℕ) (given : List Arrival) → IsApart path found → flat_map (made_by path) (the_tail given) ≡ []
  made-behind path given apart =
      behind-none (made_by path) (Some recording) found r given refl (none-made path found apart r (taken_of r given)) refl

  module _ (given : List Arrival) (old new : Outside) where
    abbrev the_plan : List Action
    the_plan = node_plan (Some recording) (Some played) found r given

    abbrev AddedTo : List ℕ → List ℕ → Type 0
    AddedTo path bytes = IsAddedTo path old.files new.files bytes

    -- only the files of what is found are created
    made-plan : (path : List ℕ) → IsApart path found → flat_map (made_by path) the_plan ≡ []
    made-plan path apart =
        run-gives the_lay r (made_by path) makes_none (yields-made recording played path r) given (the_tail given)
        ∙ ap (λ ys. ys ++ flat_map (made_by path) (the_tail given)) (over-none [] (taken_of r given))
        ∙ made-behind path given apart

    -- so the file contains everything that was appended to it
    file-until : (path : List ℕ) (one : List Input → Input → List ℕ) → Yields the_lay r (added_by path) one → IsApart path found →
        (done : List Action) → Begun the_plan done → Ran done old new → (s : StopAt the_lay r given (the_tail given) done) →
        AddedTo path (over one [] s.cut.whole ++ added_in path s.part)
    file-until path one y apart done begun ran s held there =
        let made_is : flat_map (made_by path) done ≡ [] =
        front-of-none _ _ (front-gives the_lay r (made_by path) makes_none (yields-made recording played path r) the_plan done begun)
        (made-plan path apart) in
        ap (λ (holds : Content). holds path) ran.files
        ∙ content-added path held done old.files.content made_is there
        ∙ ap (λ ys. Some (held ++ ys)) (given-whole the_lay r (added_by path) one y given (the_tail given) done s)

    pub peer-part : HasRun (Some recording) (Some played) found r given old new →
        StoppedPeer recording played found r given old.files new.files old.wire new.wire
    peer-part h =
        let s = stopped-at (Some recording) (Some played) found r given old new h in
        let u = sent-until (Some recording) (Some played) found r given old new h.done h.ran s in
        let played_all = concat (contents_over r s.cut.whole s.cut.last) in
        let recorded_all = flat_map entry_bytes s.cut.last ++ end_of r given in
        record {
          cut = s.cut;
          sent = u.sent;
          bytes = shared (added_in played s.part) played_all;
          entries = shared (added_in recording s.part) recorded_all;
          sent_front = u.front;
          bytes_front = shared-front (added_in played s.part) played_all;
          entries_front = shared-front (added_in recording s.part) recorded_all;
          sent_is = u.is;
          played_is = λ apart.
              let y = yields-played recording played apart.differ r in
              let none = played-behind given apart.differ apart.played_apart in
              subst (λ ys. AddedTo played (concat (contents_over r [] s.cut.whole) ++ ys))
              (sym (shared-same (added_in played s.part) played_all
              (subst (IsFront (added_in played s.part)) (append-nil _ ∙ over-plays r s.cut.whole s.cut.last)
              (given-part the_lay r (added_by played) (plays_bytes r) y given (the_tail given) h.done s [] none))))
              (subst (λ ys. AddedTo played (ys ++ added_in played s.part)) (over-plays r [] s.cut.whole)
              (file-until played (plays_bytes r) y apart.played_apart h.done h.begun h.ran s));
          recorded_is = λ apart.
              let y = yields-entries recording played apart.differ r in
              let end = recorded-behind given apart.recording_apart in
              subst (λ ys. AddedTo recording (flat_map entry_bytes s.cut.whole ++ ys))
              (sym (shared-same (added_in recording s.part) recorded_all
              (subst (λ ys. IsFront (added_in recording s.part) (ys ++ end_of r given)) (over-entries s.cut.whole s.cut.last)
              (given-part the_lay r (added_by recording) has_entry y given (the_tail given) h.done s (end_of r given) end))))
              (subst (λ ys. AddedTo recording (ys ++ added_in recording s.part)) (over-entries [] s.cut.whole)
              (file-until recording has_entry y apart.recording_apart h.done h.begun h.ran s));
        }

    -- ---- the content of a file after a whole run

    file-whole : (path : List ℕ) (one : List Input → Input → List ℕ) → Yields the_lay r (added_by path) one → IsApart path found →
        Ran the_plan old new → AddedTo path (over one [] (taken_of r given) ++ added_in path (the_tail given))
    file-whole path one y apart ran held there =
        ap (λ (holds : Content). holds path) ran.files
        ∙ content-added path held the_plan old.files.content (made-plan path apart) there
        ∙ ap (λ ys. Some (held ++ ys)) (run-gives the_lay r (added_by path) one y given (the_tail given))

    pub peer-whole : Ran the_plan old new → IsTrue (is_ended r given) → AreApart recording played found →
        DonePeer recording played r given old.files new.files old.wire new.wire
    peer-whole ran ended apart =
        let taken : List Input = taken_of r given in
        let end_is : end_of r given ≡ 0 ∷ [] = ap (λ b. cond b (0 ∷ []) []) ended in
        record {
          sent_is = sent-whole (Some recording) (Some played) found r given old new ran;
          played_is = subst (AddedTo played)
              (ap (λ ys. over (plays_bytes r) [] taken ++ ys) (played-behind given apart.differ apart.played_apart)
              ∙ append-nil _ ∙ over-plays r [] taken)
              (file-whole played (plays_bytes r) (yields-played recording played apart.differ r) apart.played_apart ran);
          recorded_is = subst (AddedTo recording)
              (ap (λ ys. over has_entry [] taken ++ ys) (recorded-behind given apart.recording_apart ∙ end_is)
              ∙ ap (λ ys. ys ++ 0 ∷ []) (over-entries [] taken))
              (file-whole recording has_entry (yields-entries recording played apart.differ r) apart.recording_apart ran);
        }
