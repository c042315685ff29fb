-- Planned runs, in terms of what the code computes.
use Rattle.std.proofs.Common.{◌≡◌, ℕ, List, [], ◌∷◌, ◌++◌, None, Some, Result, Ok, Err, ap, ◌∙◌, subst}
use Rattle.bar_outside.specs.Disk.{Disk}
use Rattle.bar_outside.specs.Stream.{Stream}
use Rattle.bar_outside.specs.Wire.{Bound, Wire, bound_by}
use Rattle.bar_outside.specs.Plan.{Action, Outside, outside}
use Rattle.bar_outside.specs.Plan.Action.{append, create, link}
use Rattle.bar_outside.specs.Plan.LinkCall.{bind}
use Rattle.bar_outside.specs.declared.fault.Fault.{Fault}
use Rattle.bar_outside.proofs.Following.{followed, stopped}
use Rattle.bar_seeds.specs.declared.secrets.Secrets.{Secrets}
use Rattle.bar_session.specs.SessionData.{SessionData}
use Rattle.bar_record.specs.Recording.{head_bytes}
use Rattle.bar_rules.specs.Member.{Member}
use Rattle.bar_rules.specs.Members.{member_by}
use Rattle.bar_wire.specs.Inputs.{Input}
use Rattle.bar_core.specs.Rules.{Rules}
use Rattle.bar_caster.specs.Code.Core.{caster_rules}
use Rattle.bar_node.specs.Runs.{RanNode, taken_of}
use Rattle.bar_node.specs.declared.summary.Summary.{Summary}
use Rattle.bar_peer.specs.Core.{peer_rules}
use Rattle.bar_party_commands.specs.CasterPlan as caster
use Rattle.bar_party_commands.specs.PeerPlan as peer
use Rattle.bar_party_commands.specs.Running.{RunFollows, place_of, spent_text}
use Rattle.bar_party_commands.specs.Summaries.{caster_summary, peer_summary}
use Rattle.bar_node.proofs.ActionKinds.{AreAmong, NoCall}
use Rattle.bar_party_commands.proofs.Printed.{caster-prints, peer-prints}
use Rattle.bar_party_commands.proofs.Reaching.{AnyName}
use Rattle.bar_party_commands.proofs.RunFollowing.{AtFiles, AtLink, AtOutput, at-binding, before-binding, behind-run, in-run, run_actions}

-- the place to which a link is bound
pub placed : (s : SessionData) (k : Secrets) (begin_ms port tick_ms : ℕ) → port ≡ s.port → tick_ms ≡ s.tick_ms →
    bound_by k.party port begin_ms tick_ms ≡ place_of begin_ms s k
placed s k begin_ms port tick_ms e f =
    ap (λ x. bound_by k.party x begin_ms tick_ms) e ∙ ap (λ x. bound_by k.party s.port begin_ms x) f

-- the content of a key file is replaced
abbrev written : List ℕ → List ℕ → List Action
written key text = create key ∷ append key text ∷ []

-- ---- a peer's run, by the text of its spent key, the head of its recording, and the place to which its link is bound

module _ (names : peer.PeerNames) (s : SessionData) (k : Secrets) (text head : List ℕ) (to : Bound) (me : Member)
    (spent : text ≡ spent_text s k) (starts : head ≡ head_bytes s.shape.id k.party) (place : to ≡ place_of names.begin_ms s k)
    (member : me ≡ member_by s k) where
  abbrev begun : List Action
  begun = create names.played ∷ create names.recording ∷ append names.recording head ∷ []

  abbrev PeerFollows : {T : Type 0} → Outside → Outside → Result T Fault → Type 0
  PeerFollows old new result = RunFollows (peer.peer_actions names s k) (peer.rules_by s k) old new result

  -- a peer doesn't call its link before binding it
  peer-firsts : AreAmong AnyName NoCall ⊥ (written names.key text ++ begun)
  peer-firsts = (tt, (tt, (tt, (tt, (tt, tt)))))

  -- the run with these values
  as-peer : {T : Type 0} (old new : Outside) (result : Result T Fault) →
      RunFollows (run_actions (written names.key text ++ begun) to (Some names.recording) (Some names.played) names.found peer_summary
      (peer_rules me)) (peer_rules me) old new result →
      PeerFollows old new result
  as-peer old new result run =
      let P = λ (x : List ℕ) (h : List ℕ) (p : Bound) (m : Member).
      RunFollows (run_actions
      (written names.key x ++ (create names.played ∷ create names.recording ∷ append names.recording h ∷ [])) p (Some names.recording)
      (Some names.played) names.found peer_summary (peer_rules m)) (peer_rules m) old new result in
      subst (P (spent_text s k) (head_bytes s.shape.id k.party) (place_of names.begin_ms s k)) member
      (subst (λ p. P (spent_text s k) (head_bytes s.shape.id k.party) p me) place
      (subst (λ h. P (spent_text s k) h to me) starts (subst (λ x. P x head to me) spent run)))

  module _ (files : Disk) (out : Stream) (wire : Wire) where
    -- the key wasn't spent
    pub peer-unspent : {S T : Type 0} (mid : Disk) (fault : Fault) → AtFiles {T = S} (written names.key text) files mid (Err fault) →
        PeerFollows {T = T} (outside files out wire) (outside mid out wire) (Err fault)
    peer-unspent mid fault first =
        as-peer _ _ _
        (before-binding (written names.key text ++ begun) to (Some names.recording) (Some names.played) names.found peer_summary
        (peer_rules me) peer-firsts (peer-prints (peer_rules me)) files out wire mid fault (λ w. stopped (written names.key text) begun _ _ fault (first w)))

    module _ {R : Type 0} (spent_files : Disk) (z : R) (first : AtFiles (written names.key text) files spent_files (Ok z)) where
      front : {S : Type 0} (mid : Disk) (result : Result S Fault) → AtFiles begun spent_files mid result →
          AtFiles (written names.key text ++ begun) files mid result
      front mid result second = λ w. followed (written names.key text) begun _ _ _ z (first w) result (second w)

      -- its files weren't created
      pub peer-unbegun : {S T : Type 0} (mid : Disk) (fault : Fault) → AtFiles {T = S} begun spent_files mid (Err fault) →
          PeerFollows {T = T} (outside files out wire) (outside mid out wire) (Err fault)
      peer-unbegun mid fault second =
          as-peer _ _ _
          (before-binding (written names.key text ++ begun) to (Some names.recording) (Some names.played) names.found peer_summary
          (peer_rules me) peer-firsts (peer-prints (peer_rules me)) files out wire mid fault (front mid (Err fault) second))

      module _ {S : Type 0} (mid : Disk) (x : S) (second : AtFiles begun spent_files mid (Ok x)) where
        -- its link wasn't bound
        pub peer-unbound : {U T : Type 0} (wire_new : Wire) (fault : Fault) →
            AtLink {T = U} (link (bind to) ∷ []) wire wire_new (Err fault) →
            PeerFollows {T = T} (outside files out wire) (outside mid out wire_new) (Err fault)
        peer-unbound wire_new fault third =
            as-peer _ _ _
            (at-binding (written names.key text ++ begun) to (Some names.recording) (Some names.played) names.found peer_summary
            (peer_rules me) peer-firsts (peer-prints (peer_rules me)) files out wire mid x (front mid (Ok x) second) wire_new fault third)

        module _ {U : Type 0} (late : Wire) (y : U) (third : AtLink (link (bind to) ∷ []) wire late (Ok y)) (now : List Input → Type 0)
            (files_new : Disk) (wire_new : Wire) where
          pub peer-in-run : {T : Type 0} (fault : Fault) →
              RanNode (Some names.recording) (Some names.played) names.found (peer_rules me) now mid files_new late wire_new (Err fault) →
              PeerFollows {T = T} (outside files out wire) (outside files_new out wire_new) (Err fault)
          peer-in-run fault ran =
              as-peer _ _ _
              (in-run (written names.key text ++ begun) to (Some names.recording) (Some names.played) names.found peer_summary
              (peer_rules me) peer-firsts (peer-prints (peer_rules me)) files out wire mid x (front mid (Ok x) second) late y third now files_new wire_new fault ran)

          pub peer-behind-run : {T : Type 0} (summary : Summary)
              (ran : RanNode (Some names.recording) (Some names.played) names.found (peer_rules me) now mid files_new late wire_new
              (Ok summary))
              (out_new : Stream) (result : Result T Fault) (same : Rules) → same ≡ peer_rules me →
              AtOutput (peer_summary same (taken_of (peer_rules me) ran.given)) out out_new result →
              PeerFollows {T = T} (outside files out wire) (outside files_new out_new wire_new) result
          peer-behind-run summary ran out_new result same e shown =
              as-peer _ _ _
              (behind-run (written names.key text ++ begun) to (Some names.recording) (Some names.played) names.found peer_summary
              (peer_rules me) peer-firsts (peer-prints (peer_rules me)) files out wire mid x (front mid (Ok x) second) late y third now files_new wire_new summary ran out_new result
              same e shown)

-- ---- a broadcaster's

module _ (names : caster.CasterNames) (s : SessionData) (k : Secrets) (stream text : List ℕ) (to : Bound) (me : Member)
    (spent : text ≡ spent_text s k) (place : to ≡ place_of names.begin_ms s k) (member : me ≡ member_by s k) where
  abbrev CasterFollows : {T : Type 0} → Outside → Outside → Result T Fault → Type 0
  CasterFollows old new result = RunFollows (caster.caster_actions names s k stream) (caster.rules_by s k stream) old new result

  -- a broadcaster doesn't call its link before binding it
  caster-firsts : AreAmong AnyName NoCall ⊥ (written names.key text)
  caster-firsts = (tt, (tt, tt))

  as-caster : {T : Type 0} (old new : Outside) (result : Result T Fault) →
      RunFollows (run_actions (written names.key text) to None None names.found caster_summary (caster_rules me stream))
      (caster_rules me stream) old new result →
      CasterFollows old new result
  as-caster old new result run =
      let P = λ (x : List ℕ) (p : Bound) (m : Member).
      RunFollows (run_actions (written names.key x) p None None names.found caster_summary (caster_rules m stream)) (caster_rules m stream)
      old new result in
      subst (P (spent_text s k) (place_of names.begin_ms s k)) member
      (subst (λ p. P (spent_text s k) p me) place (subst (λ x. P x to me) spent run))

  module _ (files : Disk) (out : Stream) (wire : Wire) where
    -- the key wasn't spent
    pub caster-unspent : {S T : Type 0} (mid : Disk) (fault : Fault) → AtFiles {T = S} (written names.key text) files mid (Err fault) →
        CasterFollows {T = T} (outside files out wire) (outside mid out wire) (Err fault)
    caster-unspent mid fault first =
        as-caster _ _ _
        (before-binding (written names.key text) to None None names.found caster_summary (caster_rules me stream) caster-firsts (caster-prints (caster_rules me stream)) files out wire mid fault
        first)

    module _ {S : Type 0} (mid : Disk) (x : S) (first : AtFiles (written names.key text) files mid (Ok x)) where
      -- its link wasn't bound
      pub caster-unbound : {U T : Type 0} (wire_new : Wire) (fault : Fault) →
          AtLink {T = U} (link (bind to) ∷ []) wire wire_new (Err fault) →
          CasterFollows {T = T} (outside files out wire) (outside mid out wire_new) (Err fault)
      caster-unbound wire_new fault second =
          as-caster _ _ _
          (at-binding (written names.key text) to None None names.found caster_summary (caster_rules me stream) caster-firsts (caster-prints (caster_rules me stream)) files out wire mid x first
          wire_new fault second)

      module _ {U : Type 0} (late : Wire) (y : U) (second : AtLink (link (bind to) ∷ []) wire late (Ok y)) (now : List Input → Type 0)
          (files_new : Disk) (wire_new : Wire) where
        pub caster-in-run : {T : Type 0} (fault : Fault) →
            RanNode None None names.found (caster_rules me stream) now mid files_new late wire_new (Err fault) →
            CasterFollows {T = T} (outside files out wire) (outside files_new out wire_new) (Err fault)
        caster-in-run fault ran =
            as-caster _ _ _
            (in-run (written names.key text) to None None names.found caster_summary (caster_rules me stream) caster-firsts (caster-prints (caster_rules me stream)) files out wire mid x first
            late y second now files_new wire_new fault ran)

        pub caster-behind-run : {T : Type 0} (summary : Summary)
            (ran : RanNode None None names.found (caster_rules me stream) now mid files_new late wire_new (Ok summary)) (out_new : Stream)
            (result : Result T Fault) (same : Rules) → same ≡ caster_rules me stream →
            AtOutput (caster_summary same (taken_of (caster_rules me stream) ran.given)) out out_new result →
            CasterFollows {T = T} (outside files out wire) (outside files_new out_new wire_new) result
        caster-behind-run summary ran out_new result same e shown =
            as-caster _ _ _
            (behind-run (written names.key text) to None None names.found caster_summary (caster_rules me stream) caster-firsts (caster-prints (caster_rules me stream)) files out wire mid x first
            late y second now files_new wire_new summary ran out_new result same e shown)
