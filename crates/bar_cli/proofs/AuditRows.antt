-- The rows of the status table, derived from how `audit` ended.
use Rattle.std.proofs.Common.{append-nil, append_assoc, ◌≡◌, ◌≢◌, ◌⊎◌, ◌==◌, ℕ, List, [], ◌∷◌, ◌++◌, Option, None, Some, true, false, IsTrue, refl, sym, ap, ◌∙◌, subst, inl, inr, map}
use Rattle.std.specs.List.{AllByRecursion}
use Rattle.std.proofs.lemmas.List.{map-append}
use Rattle.bar_outside.specs.Disk.{Content, readable}
use Rattle.bar_outside.specs.Plan.{Outside, Plan, is_stop}
use Rattle.bar_outside.specs.Stages.{ComesTo, GoesInOrder, accepts, refuses}
use Rattle.bar_outside.proofs.Stages.{each-accepts, stage-comes, stage-refused}
use Rattle.bar_outside.proofs.StageRows.{IsWithin, NeverComes, Sorts, accepted-comes as comes-accepted, cause_at, never-behind, never-unread, refusal, refusal-within, sorts-accepts, sorts-last, sorts-refusal, sorts-stage, stage-within, unlinked-within}
use Rattle.bar_outside.proofs.Unlinked.{IsUnlinked}
use Rattle.bar_window.specs.declared.exchange.Exchange.{Exchange}
use Rattle.bar_record.specs.declared.fault.RecordFault.{RecordFault}
use Rattle.bar_roster.specs.declared.fault.SessionFault.{SessionFault}
use Rattle.bar_session.specs.SessionData.{SessionData}
use Rattle.bar_audit.specs.Laws.{KeysArePaid, RunsAreBalanced}
use Rattle.bar_audit.specs.Listed.{IsListed, recorded}
use Rattle.bar_audit.specs.Recordings.{Recording}
use Rattle.bar_audit.specs.Runs.{AreOfRuns}
use Rattle.bar_session_files.specs.Accepting.{HasBadSession, session_of}
use Rattle.bar_wire.proofs.Lists.{AllByRecursion-push}
use Rattle.bar_cli.specs.Audit.Audited.{Audited, AuditStays, balance_in}
use Rattle.bar_cli.specs.Audit.Plan.{AuditAccepted, AuditFiles, HasBadParties, HasBadRecording, HasParties, HasRecording, HasRecordings, IsAuditCall, IsNextParty, audit_plan, audit_stages, audit_text, balance_of, inputs_listed, parties_of, parties_stages, recording_name, recordings_stages, telling_end}
use Rattle.bar_cli.specs.Audit.Text.{status_of_balance}
use Rattle.bar_cli.specs.Refusals.{parties_refused, recording_refused, session_refused}
use Rattle.bar_cli.proofs.EndLemmas.{differ, go-on}
use Rattle.bar_cli.proofs.SayingRows.{SaysInOrder, says-in-order}

-- ---- the status of a balance

pub told-on : (o : Option Exchange) → is_stop (status_of_balance o) ≡ false
told-on None = refl
told-on (Some x) = refl

is-balanced : (o : Option Exchange) → 0 ≡ status_of_balance o → o ≡ None
is-balanced None e = refl
is-balanced (Some x) e = absurd (differ 0 1 refl e)

is-unbalanced : (o : Option Exchange) → 1 ≡ status_of_balance o → (x : Exchange) × (o ≡ Some x)
is-unbalanced None e = absurd (differ 1 0 refl e)
is-unbalanced (Some x) e = (x, refl)

balance-small : (o : Option Exchange) → (status_of_balance o ≡ 0) ⊎ (status_of_balance o ≡ 1)
balance-small None = inl refl
balance-small (Some x) = inr refl

-- ---- its stages

recordings-within : (names : AuditFiles) (s : SessionData) (parties : List ℕ) (given : List Recording) →
    IsWithin (IsAuditCall names) (recordings_stages names.results s parties given)
recordings-within names s [] given = record { unlinked = tt; calls = λ call h. absurd h }
recordings-within names s (party ∷ parties) given =
    stage-within (IsAuditCall names) (recording_name names.results party) (inputs_listed s party) 8 recording_refused
    (λ inputs. recordings_stages names.results s parties (given ++ (record { party = party; inputs = inputs }) ∷ []))
    (inr (party, refl)) (λ inputs. recordings-within names s parties (given ++ (record { party = party; inputs = inputs }) ∷ []))

pub within : (names : AuditFiles) → IsWithin (IsAuditCall names) (audit_stages names)
within names =
    stage-within (IsAuditCall names) names.session session_of 4 session_refused (parties_stages names) (inl refl)
    (λ s. each-accepts _ _ (parties_of names s) (λ parties. recordings_stages names.results s parties []) (λ _. refuses 8 parties_refused)
    (λ parties. recordings-within names s parties []) (λ none. refusal-within (IsAuditCall names) 8 parties_refused))

-- nothing is done over the link
pub unlinked-plan : (names : AuditFiles) (content : Content) → IsUnlinked (audit_plan names content).actions
unlinked-plan names content = unlinked-within (IsAuditCall names) (audit_stages names) content (within names)

-- ---- one more recording

abbrev parties_in : List Recording → List ℕ
parties_in recordings = map (λ (r : Recording). r.party) recordings

has-more : (results : List ℕ) (content : Content) (s : SessionData) (before : List ℕ) (given : List Recording) (r : Recording) →
    HasRecordings results content s before given → HasRecording results content s r →
    HasRecordings results content s (before ++ r.party ∷ []) (given ++ r ∷ [])
has-more results content s before given r h k = record {
  order = map-append (λ (r : Recording). r.party) given (r ∷ []) ∙ ap (λ parties. parties ++ r.party ∷ []) h.order;
  each = AllByRecursion-push (HasRecording results content s) given r h.each k;
}

-- a property of stages that is preserved by a recording that is accepted
abbrev GoesThrough : List ℕ → Content → SessionData → (List ℕ → List Recording → Type 0) → Type 0
GoesThrough results content s P =
    (r : Recording) (left : List ℕ) (given : List Recording) → HasRecording results content s r → P left (given ++ r ∷ []) →
    P (r.party ∷ left) given

-- if a property is preserved by one recording, it is preserved by several
through : (results : List ℕ) (content : Content) (s : SessionData) (P : List ℕ → List Recording → Type 0) → GoesThrough results content s P →
    (rs : List Recording) (left : List ℕ) (given : List Recording) → AllByRecursion (HasRecording results content s) rs → P left (given ++ rs) →
    P (parties_in rs ++ left) given
through results content s P one [] left given h p = subst (P left) (append-nil given) p
through results content s P one (r ∷ rs) left given h p =
    one r (parties_in rs ++ left) given h.0
    (through results content s P one rs left (given ++ r ∷ []) h.1 (subst (P left) (sym (append_assoc given (r ∷ []) rs)) p))

-- ---- the end to which the stages lead

module _ (names : AuditFiles) (content : Content) where
  abbrev HasOne : SessionData → Recording → Type 0
  HasOne s r = HasRecording names.results content s r

  comes-one : (end : Plan) (s : SessionData) →
      GoesThrough names.results content s (λ left given. ComesTo (recordings_stages names.results s left given) content end)
  comes-one end s r left given h c =
      stage-comes (recording_name names.results r.party) (inputs_listed s r.party) 8 recording_refused
      (λ inputs. recordings_stages names.results s left (given ++ (record { party = r.party; inputs = inputs }) ∷ [])) content r.inputs end h c

  never-one : (s : SessionData) →
      GoesThrough names.results content s (λ left given. NeverComes (recordings_stages names.results s left given) content)
  never-one s r left given h never =
      never-behind (recording_name names.results r.party) (inputs_listed s r.party) 8 recording_refused
      (λ inputs. recordings_stages names.results s left (given ++ (record { party = r.party; inputs = inputs }) ∷ [])) content r.inputs h never

  behind-parties : (s : SessionData) (parties : List ℕ) (end : Plan) → HasParties names content s parties →
      ComesTo (recordings_stages names.results s parties []) content end → ComesTo (audit_stages names) content end
  behind-parties s parties end h c =
      stage-comes names.session session_of 4 session_refused (parties_stages names) content s end h.in_session
      (comes-accepted (parties_of names s) (λ parties. recordings_stages names.results s parties []) (λ _. refuses 8 parties_refused) content end
      parties h.are c)

  abbrev pub audit_end : AuditAccepted names content → Plan
  audit_end a = telling_end a.session a.recordings

  pub told-comes : (a : AuditAccepted names content) → ComesTo (audit_stages names) content (audit_end a)
  told-comes a =
      behind-parties a.session a.parties (audit_end a) a.by_parties
      (subst (λ parties. ComesTo (recordings_stages names.results a.session parties []) content (audit_end a))
      (append-nil (parties_in a.recordings) ∙ a.has.order)
      (through names.results content a.session
      (λ left given. ComesTo (recordings_stages names.results a.session left given) content (audit_end a))
      (comes-one (audit_end a) a.session) a.recordings [] [] a.has.each refl))

  -- the parties up to this one, in order
  split : (s : SessionData) (party : ℕ) (next : IsNextParty names content s party) →
      parties_in next.recordings ++ party ∷ next.after ≡ next.parties
  split s party next = ap (λ before. before ++ party ∷ next.after) next.has.order ∙ sym next.order

  pub bad-recording_comes : (fault : RecordFault) → HasBadRecording names content fault →
      ComesTo (audit_stages names) content (refusal 8 (recording_refused fault))
  bad-recording_comes fault bad =
      let s = bad.session in
      let next = bad.next in
      let end : Plan = refusal 8 (recording_refused fault) in
      behind-parties s next.parties end next.by_parties
      (subst (λ parties. ComesTo (recordings_stages names.results s parties []) content end) (split s bad.party next)
      (through names.results content s (λ left given. ComesTo (recordings_stages names.results s left given) content end) (comes-one end s)
      next.recordings (bad.party ∷ next.after) [] next.has.each
      (stage-refused (recording_name names.results bad.party) (inputs_listed s bad.party) 8 recording_refused
      (λ inputs. recordings_stages names.results s next.after (next.recordings ++ (record { party = bad.party; inputs = inputs }) ∷ []))
      content fault bad.in_recording)))

  pub no-recording : (s : SessionData) (party : ℕ) → IsNextParty names content s party →
      readable content (recording_name names.results party) ≡ None → NeverComes (audit_stages names) content
  no-recording s party next none =
      never-behind names.session session_of 4 session_refused (parties_stages names) content s next.by_parties.in_session
      (subst (λ r. NeverComes (accepts r (λ parties. recordings_stages names.results s parties []) (λ _. refuses 8 parties_refused)) content)
      (sym next.by_parties.are)
      (subst (λ parties. NeverComes (recordings_stages names.results s parties []) content) (split s party next)
      (through names.results content s (λ left given. NeverComes (recordings_stages names.results s left given) content) (never-one s)
      next.recordings (party ∷ next.after) [] next.has.each
      (never-unread (recording_name names.results party) (inputs_listed s party) 8 recording_refused
      (λ inputs. recordings_stages names.results s next.after (next.recordings ++ (record { party = party; inputs = inputs }) ∷ []))
      content none))))

  -- the cause of a refusal, by the status
  abbrev pub Causes : ℕ → Type 0
  Causes status =
      cause_at (status == 4) ((fault : SessionFault) × HasBadSession names.session content fault)
      (cause_at (status == 8) (HasBadParties names content ⊎ ((fault : RecordFault) × HasBadRecording names content fault)) ⊥)

  sorts-recordings : (s : SessionData) (all before left : List ℕ) (given : List Recording) → HasParties names content s all →
      all ≡ before ++ left → HasRecordings names.results content s before given →
      Sorts Causes audit_end content (recordings_stages names.results s left given)
  sorts-recordings s all before [] given by order has =
      sorts-last Causes audit_end content (record {
        session = s;
        parties = all;
        recordings = given;
        by_parties = by;
        has = subst (λ parties. HasRecordings names.results content s parties given) (sym (order ∙ append-nil before)) has;
      })
  sorts-recordings s all before (party ∷ after) given by order has =
      sorts-stage Causes audit_end content (recording_name names.results party) (inputs_listed s party) 8 recording_refused
      (λ inputs. recordings_stages names.results s after (given ++ (record { party = party; inputs = inputs }) ∷ []))
      (λ fault bad. inr (
        fault,
        record {
          session = s;
          party = party;
          next = record {
            parties = all;
            by_parties = by;
            before = before;
            after = after;
            order = order;
            recordings = given;
            has = has;
          };
          in_recording = bad;
        },
      ))
      (λ inputs one. sorts-recordings s all (before ++ party ∷ []) after (given ++ (record { party = party; inputs = inputs }) ∷ []) by
      (order ∙ sym (append_assoc before (party ∷ []) after))
      (has-more names.results content s before given (record { party = party; inputs = inputs }) has one))

  sorts : Sorts Causes audit_end content (audit_stages names)
  sorts =
      sorts-stage Causes audit_end content names.session session_of 4 session_refused (parties_stages names) (λ fault bad. (fault, bad))
      (λ s has. sorts-accepts Causes audit_end content (parties_of names s) (λ parties. recordings_stages names.results s parties [])
      (λ _. refuses 8 parties_refused)
      (λ none is. sorts-refusal Causes audit_end content 8 parties_refused (inl (record { session = s; in_session = has; is = is })))
      (λ parties are. sorts-recordings s parties [] parties [] (record { in_session = has; are = are }) refl (record { order = refl; each = tt })))

-- ---- the rows

module _ (names : AuditFiles) (old new : Outside) (status : ℕ) (told : IsTrue new.files.told)
    (order : GoesInOrder (audit_stages names) old new status) where
  abbrev content : Content
  content = old.files.content

  abbrev lines : AuditAccepted names content → List ℕ
  lines a = audit_text a.session a.recordings

  abbrev final : AuditAccepted names content → ℕ
  final a = status_of_balance (balance_in names content a)

  pub audit-order : SaysInOrder (Causes names content) lines final old new status
  audit-order =
      says-in-order (Causes names content) lines final old new status (λ a. balance-small (balance_in names content a)) (λ why. why)
      (λ why. why) (audit_stages names) told (sorts names content) order.gone

  -- the whole report was printed, with this balance
  audited : IsListed → KeysArePaid → (balance : Option Exchange) (a : AuditAccepted names content) →
      new.out.bytes ≡ old.out.bytes ++ lines a → balance_in names content a ≡ balance → Audited names balance old new
  unfolding audit_text balance_of
  audited listed paid balance a printed e =
      let s = a.session in
      let recordings = a.recordings in
      record {
        accepted = a;
        exchanges = recorded s recordings;
        are = listed s recordings;
        is = e;
        printed = printed;
        paid = λ none x role there key. paid s recordings (recorded s recordings) x role (listed s recordings) (e ∙ none)
            (((listed s recordings).exactly x).1 there) key;
        files = audit-order.files;
      }

  -- the exchanges of obedient parties are balanced
  obedient : IsListed → RunsAreBalanced → (a : AuditAccepted names content) (secrets : ℕ → List ℕ) →
      AreOfRuns a.session secrets a.recordings → final a ≡ 0
  unfolding balance_of
  obedient listed of_runs a secrets runs =
      ap status_of_balance (of_runs a.session secrets a.recordings (recorded a.session a.recordings) (listed a.session a.recordings) runs)

  not-one : (a : AuditAccepted names content) → final a ≡ 0 → status ≢ 1
  not-one a zero one =
      elim (order.stopped (audit_end names content a) (told-comes names content a)) [
        | inl same ↦ differ 1 0 refl (sym one ∙ same ∙ zero)
        | inr stop ↦ go-on 1 refl (subst (λ n. is_stop n ≡ true) one stop)
      ]

  pub stays : IsListed → RunsAreBalanced → AuditStays names old new status
  stays listed of_runs = record {
    files = audit-order.files;
    of_runs = λ a secrets runs. not-one a (obedient listed of_runs a secrets runs);
  }

module _ (listed : IsListed) (paid : KeysArePaid) (names : AuditFiles) (old new : Outside) (told : IsTrue new.files.told) where
  pub balanced : GoesInOrder (audit_stages names) old new 0 → Audited names None old new
  balanced order =
      let t = (audit-order names old new 0 told order).ended (inl refl) in
      audited names old new 0 told order listed paid None t.0 t.2 (is-balanced (balance_in names old.files.content t.0) t.1)

  pub unbalanced : GoesInOrder (audit_stages names) old new 1 → (x : Exchange) × Audited names (Some x) old new
  unbalanced order =
      let t = (audit-order names old new 1 told order).ended (inr refl) in
      let e = is-unbalanced (balance_in names old.files.content t.0) t.1 in
      (e.0, audited names old new 1 told order listed paid (Some e.0) t.0 t.2 e.1)
