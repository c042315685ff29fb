-- The replay of what a completed peer run left.
use Rattle.std.proofs.Common.{◌≡◌, ◌≤◌, ◌∙◌, ℕ, List, ◌++◌, Bool, true, false, nat_le, Option, None, Some, Ok, IfSome, IsSome, is_some, cond, refl, sym, ap, subst, arith, length}
use Rattle.std.specs.List.{AllByRecursion}
use Rattle.std.specs.Option.{option_and_then}
use Rattle.std.specs.Result.{result_map_both}
use Rattle.std.proofs.lemmas.Bool.Decides.{nat_tests}
use Rattle.bar_outside.specs.Disk.{Content, largest_file, readable}
use Rattle.bar_outside.specs.Plan.{Outside}
use Rattle.bar_findings.specs.Findings.{evidence_name, in_order, table_name}
use Rattle.bar_judge.specs.TableFile.{table_bytes}
use Rattle.bar_wire.specs.Inputs.{Input}
use Rattle.bar_seeds.specs.declared.secrets.Secrets.{Secrets}
use Rattle.bar_roster.specs.KeyAnew.{longest_text, text_of}
use Rattle.bar_roster.specs.KeyFile.{key_file_of}
use Rattle.bar_session.specs.SessionData.{SessionData}
use Rattle.bar_record.specs.declared.fault.RecordFault.{RecordFault}
use Rattle.bar_record.specs.Pacing.{StaysPaced, paced}
use Rattle.bar_record.specs.Recording.{IsInRange, ReadsBack, recording_bytes}
use Rattle.bar_session.specs.Time.{last_tick}
use Rattle.bar_rules.specs.Member.{Member}
use Rattle.bar_rules.specs.Members.{member_by}
use Rattle.bar_rules.specs.Peer.Run.{played_by, sends_of}
use Rattle.bar_node.specs.Runs.{inputs_of, taken_of}
use Rattle.bar_session_files.specs.Accepting.{fresh_key_of, secrets_of_key, session_of}
use Rattle.bar_party_commands.specs.PeerPlan.{PeerAccepted, PeerNames, rules_by}
use Rattle.bar_party_commands.specs.PeerStands as live
use Rattle.bar_party_commands.specs.PeerStands.{PeerDone}
use Rattle.bar_laws.proofs.Logs.{some-same}
use Rattle.bar_cli.specs.Replay.Finished.{ReadsWhatAPeerLeft, ShowsWhatWasSent}
use Rattle.bar_cli.specs.Replay.Found.{evidence_of, manifest_of}
use Rattle.bar_cli.specs.Replay.Recordings.{recording_of}
use Rattle.bar_cli.specs.Replay.Plan.{Accepted, HasOwnNames, ReplayFiles, Replayed}
use Rattle.bar_cli.specs.Replay.Transcript.{transcript}

-- ---- a file that exists can be read, if it isn't too large

readable-same : (c d : Content) (p q : List ℕ) → c p ≡ d q → readable c p ≡ readable d q
readable-same c d p q e = ap (option_and_then (λ bytes. cond (nat_le (length bytes) largest_file) (Some bytes) None)) e

readable-short : (c : Content) (p bytes : List ℕ) → c p ≡ Some bytes → length bytes ≤ largest_file → readable c p ≡ Some bytes
readable-short c p bytes e short =
    let test : nat_le (length bytes) largest_file ≡ true = grind (arith, nat_tests, short) in
    ap (option_and_then (λ bytes. cond (nat_le (length bytes) largest_file) (Some bytes) None)) e
    ∙ ap (λ (b : Bool). cond b (Some bytes) None) test

readable-known : (c : Content) (p bytes : List ℕ) → c p ≡ Some bytes → IsSome (readable c p) → readable c p ≡ Some bytes
readable-known c p bytes e h =
    by_test (nat_le (length bytes) largest_file) refl
  where
    whole : readable c p ≡ cond (nat_le (length bytes) largest_file) (Some bytes) None
    whole = ap (option_and_then (λ bytes. cond (nat_le (length bytes) largest_file) (Some bytes) None)) e

    by_test : (b : Bool) → nat_le (length bytes) largest_file ≡ b → readable c p ≡ Some bytes
    by_test true t = whole ∙ ap (λ (b : Bool). cond b (Some bytes) None) t
    by_test false t =
        let none : readable c p ≡ None = whole ∙ ap (λ (b : Bool). cond b (Some bytes) None) t in
        let some : is_some (readable c p) ≡ false = ap (λ o. is_some o) none in
        cc

-- ---- the files are accepted

-- the text of an accepted key, written as spent, is accepted again, and is short
abbrev pub AreReadBack : Type 0
AreReadBack =
    (s : SessionData) (caster fresh spent : Bool) (bytes : List ℕ) (k : Secrets) → key_file_of s caster fresh bytes ≡ Ok k →
    key_file_of s caster false (text_of s k spent) ≡ Ok k

abbrev pub AreShort : Type 0
AreShort =
    (s : SessionData) (caster fresh spent : Bool) (bytes : List ℕ) (k : Secrets) → key_file_of s caster fresh bytes ≡ Ok k →
    length (text_of s k spent) ≤ longest_text

spent-key : AreReadBack → (s : SessionData) (bytes : List ℕ) (k : Secrets) → fresh_key_of false s bytes ≡ Ok k →
    secrets_of_key s (text_of s k true) ≡ Ok k
unfolding fresh_key_of secrets_of_key
spent-key back s bytes k is = back s false true true bytes k is

short-key : AreShort → (s : SessionData) (bytes : List ℕ) (k : Secrets) → fresh_key_of false s bytes ≡ Ok k →
    length (text_of s k true) ≤ largest_file
unfolding fresh_key_of
short-key short s bytes k is = let most = short s false true true bytes k is in omega arith

-- the inputs that a peer of this session takes from what a link gave
abbrev inputs_in : SessionData → List Input → List Input
inputs_in s inputs = paced (last_tick s) inputs

whole-recording : ReadsBack → StaysPaced → (s : SessionData) (party : ℕ) (inputs : List Input) → AllByRecursion IsInRange inputs →
    recording_of s party (recording_bytes s.shape.id party (inputs_in s inputs)) ≡ Ok (inputs_in s inputs)
unfolding recording_of
whole-recording reads stays s party inputs within =
    ap (result_map_both (paced (last_tick s)) (λ (fault : RecordFault). fault))
    (reads s.shape.id party (last_tick s) inputs s.shape.shaped.id_long within)
    ∙ ap Ok (stays (last_tick s) inputs)

module _ (peer : PeerNames) (names : ReplayFiles) (before after old : Outside) (done : PeerDone peer before after)
    (own : live.HasOwnNames peer) (left : ReadsWhatAPeerLeft peer names before after old) where
  abbrev inputs : List Input
  inputs = taken_of (rules_by done.session done.secrets) done.given

  pub left-accepted : AreReadBack → AreShort → ReadsBack → StaysPaced →
      Accepted names old.files.content
  left-accepted back short reads stays =
      let a : PeerAccepted peer before.files.content done.session done.secrets = done.is_of.accepted in
      let key : old.files.content names.key ≡ Some (text_of done.session done.secrets true) = left.key ∙ done.bound.spent own in
      let recording : old.files.content names.recording
      ≡ Some (recording_bytes done.session.shape.id done.secrets.party inputs) = left.recording ∙ done.run.recorded own in
      record {
        session = done.session;
        secrets = done.secrets;
        inputs = inputs;
        by_key = record {
          in_session = record {
            bytes = a.in_session.bytes;
            read = readable-same old.files.content before.files.content names.session peer.session left.session ∙ a.in_session.read;
            is = a.in_session.is;
          };
          in_key = record {
            bytes = text_of done.session done.secrets true;
            read = readable-short old.files.content names.key _ key (short-key short done.session a.bytes done.secrets a.is);
            is = spent-key back done.session a.bytes done.secrets a.is;
          };
        };
        in_recording = record {
          bytes = recording_bytes done.session.shape.id done.secrets.party inputs;
          read = readable-known old.files.content names.recording _ recording left.not_large;
          is = whole-recording reads stays done.session done.secrets.party (inputs_of done.given) done.is_given.within;
        };
      }

-- ---- acceptance is unique: a file has one meaning

same-session : (names : ReplayFiles) (content : Content) (a b : Accepted names content) → a.session ≡ b.session
same-session names content a b =
    let text = some-same (readable content names.session) a.by_key.in_session.bytes b.by_key.in_session.bytes
    a.by_key.in_session.read b.by_key.in_session.read in
    let e = sym a.by_key.in_session.is ∙ ap session_of text ∙ b.by_key.in_session.is in
    cc

same-secrets : (names : ReplayFiles) (content : Content) (a b : Accepted names content) → a.secrets ≡ b.secrets
same-secrets names content a b =
    let one = a.by_key.in_key in
    let two = b.by_key.in_key in
    let bytes = some-same (readable content names.key) one.bytes two.bytes one.read two.read in
    let e = sym one.is ∙ ap (secrets_of_key a.session) bytes
    ∙ ap (λ (s : SessionData). secrets_of_key s two.bytes) (same-session names content a b) ∙ two.is in
    cc

same-inputs : (names : ReplayFiles) (content : Content) (a b : Accepted names content) → a.inputs ≡ b.inputs
same-inputs names content a b =
    let one = a.in_recording in
    let two = b.in_recording in
    let bytes = some-same (readable content names.recording) one.bytes two.bytes one.read two.read in
    let e = sym one.is ∙ ap (recording_of a.session a.secrets.party) bytes
    ∙ ap (λ (s : SessionData). recording_of s a.secrets.party two.bytes) (same-session names content a b)
    ∙ ap (λ (k : Secrets). recording_of b.session k.party two.bytes) (same-secrets names content a b) ∙ two.is in
    cc

-- ---- so the replay did what the peer did

-- The effects of a replay of this peer over these inputs.
record HasReplayed (names : ReplayFiles) (s : SessionData) (k : Secrets) (inputs : List Input) (old new : Outside) : Type 0 where
  shown : new.out.bytes ≡ old.out.bytes ++ transcript s (sends_of (member_by s k) inputs)
  played : HasOwnNames names → new.files.content names.played ≡ Some (played_by (member_by s k) inputs)
  table : new.files.content (table_name names.found) ≡ Some (table_bytes (in_order (manifest_of (member_by s k) inputs) s.shape.rounds))
  evidence : (party : ℕ) → 1 ≤ party → party ≤ s.shape.peers →
      IfSome (evidence_of (member_by s k) inputs party) (λ kept. new.files.content (evidence_name names.found party) ≡ Some kept)

as-accepted : (names : ReplayFiles) (old new : Outside) (a : Accepted names old.files.content) → Replayed names old new →
    HasReplayed names a.session a.secrets a.inputs old new
as-accepted names old new a r =
    let b : Accepted names old.files.content = r.accepted in
    let first : HasReplayed names b.session b.secrets b.inputs old new =
    record { shown = r.sent; played = r.played; table = r.table; evidence = r.evidence } in
    subst (λ (inputs : List Input). HasReplayed names a.session a.secrets inputs old new) (same-inputs names old.files.content b a)
    (subst (λ (k : Secrets). HasReplayed names a.session k b.inputs old new) (same-secrets names old.files.content b a)
    (subst (λ (s : SessionData). HasReplayed names s b.secrets b.inputs old new) (same-session names old.files.content b a) first))

both-some : {A : Type 0} (o : Option A) (P Q : A → Type 0) → IfSome o P → IfSome o Q → IfSome o (λ x. P x × Q x)
both-some None P Q p q = tt
both-some (Some x) P Q p q = (p, q)

pub shows-sent : (peer : PeerNames) (names : ReplayFiles) (before after old new : Outside) (done : PeerDone peer before after) →
    live.HasOwnNames peer → ReadsWhatAPeerLeft peer names before after old → AreReadBack → AreShort → ReadsBack → StaysPaced →
    Replayed names old new → ShowsWhatWasSent peer names before after old new
unfolding left-accepted
shows-sent peer names before after old new done own left back short reads stays replayed =
    let a = left-accepted peer names before after old done own left back short reads stays in
    let r = as-accepted names old new a replayed in
    let me : Member = member_by done.session done.secrets in
    let taken : List Input = taken_of (rules_by done.session done.secrets) done.given in
    record {
      session = done.session;
      secrets = done.secrets;
      inputs = taken;
      accepted = done.is_of.accepted;
      sent = done.run.sent;
      shown = r.shown;
      played = λ apart. r.played apart ∙ sym (done.run.played own);
      table = r.table ∙ sym done.run.found.table;
      evidence = λ party low high. both-some (evidence_of me taken party)
          (λ (kept : List ℕ). after.files.content (evidence_name peer.found party) ≡ Some kept)
          (λ (kept : List ℕ). new.files.content (evidence_name names.found party) ≡ Some kept)
          (done.run.found.evidence party low high) (r.evidence party low high);
    }
