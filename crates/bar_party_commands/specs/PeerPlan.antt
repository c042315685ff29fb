-- The plan of the command `peer`.
use Rattle.std.specs.Prelude.{◌≡◌, ℕ, List, [], ◌∷◌, ◌++◌, Some, Ok, false}
use Rattle.bar_outside.specs.Disk.{Content, readable}
use Rattle.bar_outside.specs.Plan.{Action, Plan}
use Rattle.bar_outside.specs.Plan.Action.{append, create}
use Rattle.bar_outside.specs.Stages.{Stages, plan_by}
use Rattle.bar_outside.specs.Stages.Stages.{does}
use Rattle.bar_outside.specs.Wire.{Arrival}
use Rattle.bar_seeds.specs.declared.secrets.Secrets.{Secrets}
use Rattle.bar_session.specs.SessionData.{SessionData}
use Rattle.bar_record.specs.Recording.{head_bytes}
use Rattle.bar_core.specs.Rules.{Rules}
use Rattle.bar_rules.specs.Members.{member_by}
use Rattle.bar_peer.specs.Core.{peer_rules}
use Rattle.bar_node.specs.Runs.{node_plan}
use Rattle.bar_session_files.specs.Accepting.{HasSession, fresh_key_of, fresh_key_stage, session_stage}
use Rattle.bar_party_commands.specs.Running.{binding, spending, status_of}
use Rattle.bar_party_commands.specs.Summaries.{at_end, peer_summary}

-- the files of a peer, and the Unix time of its first tick in milliseconds
pub record PeerNames : Type 0 where
  pub session : List ℕ
  pub key : List ℕ
  pub begin_ms : ℕ
  pub played : List ℕ
  pub recording : List ℕ
  pub found : List ℕ

-- the rules of the peer with this key
abbrev pub rules_by : SessionData → Secrets → Rules
rules_by s k = peer_rules (member_by s k)

-- the key is spent, and the played file and the recording are created
abbrev pub before_binding : PeerNames → SessionData → Secrets → List Action
before_binding names s k =
    spending names.key s k
    ++ (create names.played ∷ create names.recording ∷ append names.recording (head_bytes s.shape.id k.party) ∷ [])

-- a peer's run over what a link gives
abbrev pub peer_run : PeerNames → SessionData → Secrets → List Arrival → List Action
peer_run names s k given = node_plan (Some names.recording) (Some names.played) names.found (rules_by s k) given

-- then the link is bound, the peer runs over it, and its summary is printed
abbrev pub peer_actions : PeerNames → SessionData → Secrets → List Arrival → List Action
peer_actions names s k given =
    before_binding names s k
    ++ (binding names.begin_ms s k ∷ (peer_run names s k given ++ at_end peer_summary (rules_by s k) given))

-- ---- its stages

abbrev pub peer_end : PeerNames → List Arrival → SessionData → Secrets → Plan
peer_end names given s k = record { actions = peer_actions names s k given; status = status_of (rules_by s k) given; line = [] }

-- the key file is read, and accepted if it is a peer's and fresh; otherwise it is refused
abbrev pub peer_key_stages : PeerNames → List Arrival → SessionData → Stages
peer_key_stages names given s = fresh_key_stage false names.key s (λ k. does (peer_end names given s k))

-- before that the session is read
abbrev pub peer_stages : PeerNames → List Arrival → Stages
peer_stages names given = session_stage names.session (peer_key_stages names given)

abbrev pub peer_plan : PeerNames → List Arrival → Content → Plan
peer_plan names given = plan_by (peer_stages names given)

-- The session's text exists and is accepted. So is the key file, which is fresh and contains these secrets of a peer.
pub record PeerAccepted (names : PeerNames) (content : Content) (s : SessionData) (k : Secrets) : Type 0 where
  pub in_session : HasSession names.session content s
  pub bytes : List ℕ
  pub read : readable content names.key ≡ Some bytes
  pub is : fresh_key_of false s bytes ≡ Ok k
