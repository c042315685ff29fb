-- A run appends only to files that were created before.
use Rattle.std.proofs.Common.{◌≡◌, ◌⊎◌, ℕ, ◌+◌, List, [], ◌∷◌, ◌++◌, length, Bool, true, false, if◌then◌else◌, Option, None, Some}
use Rattle.std.proofs.Common.{IsTrue, refl, subst, inl, inr}
use Rattle.std.specs.List.{flat_map, range_with_len}
use Rattle.bar_outside.specs.Disk.{CreatedFiles, with_file}
use Rattle.bar_outside.specs.Plan.{Action, CanRun, created_after}
use Rattle.bar_outside.specs.Plan.Action.{append, create, link, read, show}
use Rattle.bar_outside.specs.Plan.LinkCall.{bind, receive}
use Rattle.bar_outside.specs.Wire.{Arrival, Bound}
use Rattle.bar_outside.proofs.ActionLists.{CanRun-append, created-stays, with_file-others, with_file-same}
use Rattle.bar_seeds.specs.declared.secrets.Secrets.{Secrets}
use Rattle.bar_session.specs.SessionData.{SessionData}
use Rattle.bar_wire.specs.Inputs.{Input}
use Rattle.bar_record.specs.Pacing.{ticks_of}
use Rattle.bar_record.specs.Recording.{entry_bytes}
use Rattle.bar_findings.specs.Findings.{findings_actions}
use Rattle.bar_findings.proofs.Holding.{can-write}
use Rattle.bar_core.specs.Rules.{Rules}
use Rattle.bar_node.specs.Runs.{closing, due_if, found_after, input_of, is_ended, node_from, node_plan, run_if, taken_of}
use Rattle.bar_node.specs.Code.Turns.{kept, node_layout, sent, turn, turns}
use Rattle.bar_party_commands.specs.CasterPlan as caster
use Rattle.bar_party_commands.specs.PeerPlan as peer
use Rattle.bar_party_commands.specs.Running.{place_of, spending}
use Rattle.bar_party_commands.specs.Summaries.{at_end, caster_summary, evicted_word, evidence_word, peer_summary, shown_if, shown_parties}

-- ---- actions that append only to some files

abbrev AddTo : (List ℕ → Type 0) → List Action → Type 0
AddTo P [] = Unit {0}
AddTo P (read path ∷ others) = AddTo P others
AddTo P (create path ∷ others) = AddTo P others
AddTo P (append path bytes ∷ others) = P path × AddTo P others
AddTo P (show bytes ∷ others) = AddTo P others
AddTo P (link call ∷ others) = AddTo P others

-- if these files are created, the actions can be done
can-add : (P : List ℕ → Type 0) (acts : List Action) (here : CreatedFiles) → ((path : List ℕ) → P path → IsTrue (here path)) →
    AddTo P acts → CanRun acts here
can-add P [] here made add = tt
can-add P (read path ∷ others) here made add = can-add P others here made add
can-add P (create path ∷ others) here made add =
    can-add P others (with_file here path) (λ q h. with_file-others here path q (made q h)) add
can-add P (append path bytes ∷ others) here made add = (made path add.0, can-add P others here made add.1)
can-add P (show bytes ∷ others) here made add = can-add P others here made add
can-add P (link call ∷ others) here made add = can-add P others here made add

add-append : (P : List ℕ → Type 0) (xs ys : List Action) → AddTo P xs → AddTo P ys → AddTo P (xs ++ ys)
add-append P [] ys h k = k
add-append P (read path ∷ others) ys h k = add-append P others ys h k
add-append P (create path ∷ others) ys h k = add-append P others ys h k
add-append P (append path bytes ∷ others) ys h k = (h.0, add-append P others ys h.1 k)
add-append P (show bytes ∷ others) ys h k = add-append P others ys h k
add-append P (link call ∷ others) ys h k = add-append P others ys h k

add-each : {A : Type 0} (P : List ℕ → Type 0) (f : A → List Action) (xs : List A) → ((x : A) → AddTo P (f x)) → AddTo P (flat_map f xs)
add-each P f [] h = tt
add-each P f (x ∷ xs) h = add-append P (f x) (flat_map f xs) (h x) (add-each P f xs h)

-- ---- a node's run

module _ (recording played : Option (List ℕ)) (r : Rules) where
  -- the files to which it appends
  abbrev IsKept : List ℕ → Type 0
  IsKept path = (recording ≡ Some path) ⊎ (played ≡ Some path)

  add-kept : (o : Option (List ℕ)) (bytes : List ℕ) → ((path : List ℕ) → o ≡ Some path → IsKept path) → AddTo IsKept (kept o bytes)
  add-kept None bytes h = tt
  add-kept (Some path) bytes h = (h path refl, tt)

  add-turn : (before : List Input) (input : Input) → AddTo IsKept (turn (node_layout recording played) r before input)
  add-turn before input =
      add-append IsKept (kept recording (entry_bytes input))
      (flat_map (kept played) (r.contents before input) ++ flat_map (sent (length before + 1)) (r.sends before input))
      (add-kept recording (entry_bytes input) (λ path e. inl e))
      (add-append IsKept (flat_map (kept played) (r.contents before input)) (flat_map (sent (length before + 1)) (r.sends before input))
      (add-each IsKept (kept played) (r.contents before input) (λ bytes. add-kept played bytes (λ path e. inr e)))
      (add-each IsKept (sent (length before + 1)) (r.sends before input) (λ send. tt)))

  add-turns : (before inputs : List Input) → AddTo IsKept (turns (node_layout recording played) r before inputs)
  add-turns before [] = tt
  add-turns before (input ∷ inputs) =
      add-append IsKept (turn (node_layout recording played) r before input)
      (turns (node_layout recording played) r (before ++ input ∷ []) inputs) (add-turn before input)
      (add-turns (before ++ input ∷ []) inputs)

  add-run : (before : List Input) (run : ℕ) (given : List Arrival) →
      AddTo IsKept (node_from (node_layout recording played) r before run given)
  add-run before run [] = tt
  add-run before run (a ∷ given) =
      let due = due_if r.last (ticks_of before) run (input_of a) in
      add-append IsKept (turns (node_layout recording played) r before due)
      (node_from (node_layout recording played) r (before ++ due) (run_if run (input_of a)) given) (add-turns before due)
      (add-run (before ++ due) (run_if run (input_of a)) given)

  can-end : (b : Bool) (found : List ℕ) (taken : List Input) (here : CreatedFiles) → ((path : List ℕ) → IsKept path → IsTrue (here path)) →
      CanRun (if b then closing recording found r taken else link (receive None) ∷ []) here
  can-end false found taken here made = tt
  can-end true found taken here made =
      CanRun-append (kept recording (0 ∷ [])) (findings_actions (found_after found r taken)) here
      (can-add IsKept (kept recording (0 ∷ [])) here made (add-kept recording (0 ∷ []) (λ path e. inl e)))
      (can-write (found_after found r taken) (created_after (kept recording (0 ∷ [])) here))

  can-node : (found : List ℕ) (given : List Arrival) (here : CreatedFiles) → ((path : List ℕ) → IsKept path → IsTrue (here path)) →
      CanRun (node_plan recording played found r given) here
  can-node found given here made =
      let front = node_from (node_layout recording played) r [] 0 given in
      CanRun-append front (if is_ended r given then closing recording found r (taken_of r given) else link (receive None) ∷ []) here
      (can-add IsKept front here made (add-run [] 0 given))
      (can-end (is_ended r given) found (taken_of r given) (created_after front here)
      (λ path h. created-stays front here path (made path h)))

  -- ---- what precedes and follows it

  can-show : (b : Bool) (lines : List Action) (here : CreatedFiles) → ((P : List ℕ → Type 0) → AddTo P lines) →
      CanRun (if b then lines else []) here
  can-show false lines here h = tt
  can-show true lines here h = can-add (λ path. ⊥) lines here (λ path none. absurd none) (h (λ path. ⊥))

  can-run : (front : List Action) (bound : Bound) (found : List ℕ) (summary : Rules → List Input → List Action) (given : List Arrival)
      (here : CreatedFiles) → ((taken : List Input) (P : List ℕ → Type 0) → AddTo P (summary r taken)) → CanRun front here →
      ((path : List ℕ) → IsKept path → IsTrue (created_after front here path)) →
      CanRun (front ++ (link (bind bound) ∷ (node_plan recording played found r given ++ at_end summary r given))) here
  can-run front bound found summary given here shows can made =
      CanRun-append front (link (bind bound) ∷ (node_plan recording played found r given ++ at_end summary r given)) here can
      (CanRun-append (node_plan recording played found r given) (at_end summary r given) (created_after front here)
      (can-node found given (created_after front here) made)
      (can-show (is_ended r given) (summary r (taken_of r given)) _ (shows (taken_of r given))))

-- ---- a peer's and a broadcaster's

add-parties : (P : List ℕ → Type 0) (word : List ℕ) (evidence : ℕ → Option (List ℕ)) (peers : ℕ) →
    AddTo P (shown_parties word evidence peers)
add-parties P word evidence peers =
    add-each P (λ party. shown_if word party (evidence party)) (range_with_len 1 peers) (λ party. by_evidence party (evidence party))
  where
    by_evidence : (party : ℕ) (o : Option (List ℕ)) → AddTo P (shown_if word party o)
    by_evidence party None = tt
    by_evidence party (Some bytes) = tt

pub can-peer : (names : peer.PeerNames) (s : SessionData) (k : Secrets) (given : List Arrival) (here : CreatedFiles) →
    CanRun (peer.peer_actions names s k given) here
can-peer names s k given here =
    can-run (Some names.recording) (Some names.played) (peer.rules_by s k) (peer.before_binding names s k)
    (place_of names.begin_ms s k) names.found peer_summary given here
    (λ taken P. add-parties P evidence_word ((peer.rules_by s k).evidence taken) (peer.rules_by s k).peers)
    (with_file-same here names.key, (with_file-same (with_file (with_file here names.key) names.played) names.recording, tt)) by_path
  where
    by_path : (path : List ℕ) → (Some names.recording ≡ Some path) ⊎ (Some names.played ≡ Some path) →
        IsTrue (created_after (peer.before_binding names s k) here path)
    by_path path (inl e) =
        let same : names.recording ≡ path = cc in
        subst (λ q. IsTrue (created_after (peer.before_binding names s k) here q)) same
        (with_file-same (with_file (with_file here names.key) names.played) names.recording)
    by_path path (inr e) =
        let same : names.played ≡ path = cc in
        subst (λ q. IsTrue (created_after (peer.before_binding names s k) here q)) same
        (with_file-others (with_file (with_file here names.key) names.played) names.recording names.played
        (with_file-same (with_file here names.key) names.played))

pub can-caster : (names : caster.CasterNames) (s : SessionData) (k : Secrets) (stream : List ℕ) (given : List Arrival) (here : CreatedFiles) →
    CanRun (caster.caster_actions names s k stream given) here
can-caster names s k stream given here =
    can-run None None (caster.rules_by s k stream) (spending names.key s k) (place_of names.begin_ms s k) names.found
    caster_summary given here
    (λ taken P. add-parties P evicted_word ((caster.rules_by s k stream).evidence taken) (caster.rules_by s k stream).peers)
    (with_file-same here names.key, tt) by_path
  where
    by_path : (path : List ℕ) → (None ≡ Some path) ⊎ (None ≡ Some path) → IsTrue (created_after (spending names.key s k) here path)
    by_path path (inl e) = absurd cc
    by_path path (inr e) = absurd cc
