-- The plan of the command `broadcaster`.
use Rattle.std.specs.Prelude.{◌≡◌, ℕ, List, [], ◌∷◌, ◌++◌, None, Some, Ok, true}
use Rattle.bar_outside.specs.Disk.{Content, readable}
use Rattle.bar_outside.specs.Plan.{Action, Plan}
use Rattle.bar_outside.specs.Stages.{Stages, plan_by, stage}
use Rattle.bar_outside.specs.Stages.Stages.{does}
use Rattle.bar_outside.specs.Wire.{Arrival}
use Rattle.bar_seeds.specs.declared.secrets.Secrets.{Secrets}
use Rattle.bar_session.specs.SessionData.{SessionData}
use Rattle.bar_core.specs.Rules.{Rules}
use Rattle.bar_rules.specs.Members.{member_by}
use Rattle.bar_caster.specs.Code.Core.{caster_rules}
use Rattle.bar_node.specs.Runs.{node_plan}
use Rattle.bar_session_files.specs.Accepting.{HasSession, fresh_key_of, fresh_key_stage, session_stage}
use Rattle.bar_party_commands.specs.Streams.{no_room, stream_in}
use Rattle.bar_party_commands.specs.Running.{binding, spending, status_of}
use Rattle.bar_party_commands.specs.Summaries.{at_end, caster_summary}

-- the files of a broadcaster, and the Unix time of its first tick in milliseconds
pub record CasterNames : Type 0 where
  pub session : List ℕ
  pub key : List ℕ
  pub begin_ms : ℕ
  pub stream : List ℕ
  pub found : List ℕ

-- the rules of the broadcaster with this key, for its stream
abbrev pub rules_by : SessionData → Secrets → List ℕ → Rules
rules_by s k stream = caster_rules (member_by s k) stream

-- a broadcaster's run over what a link gives
abbrev pub caster_run : CasterNames → SessionData → Secrets → List ℕ → List Arrival → List Action
caster_run names s k stream given = node_plan None None names.found (rules_by s k stream) given

-- the key is spent, the link is bound, the broadcaster runs over it, and its summary is printed
abbrev pub caster_actions : CasterNames → SessionData → Secrets → List ℕ → List Arrival → List Action
caster_actions names s k stream given =
    spending names.key s k
    ++ (binding names.begin_ms s k ∷ (caster_run names s k stream given ++ at_end caster_summary (rules_by s k stream) given))

-- ---- its stages

abbrev pub caster_end : CasterNames → List Arrival → SessionData → Secrets → List ℕ → Plan
caster_end names given s k stream = record {
  actions = caster_actions names s k stream given;
  status = status_of (rules_by s k stream) given;
  line = [];
}

-- the stream is read, and accepted if it fits; otherwise it is refused
abbrev pub caster_stream_stages : CasterNames → List Arrival → SessionData → Secrets → Stages
caster_stream_stages names given s k =
    stage names.stream (stream_in s) 8 (no_room s) (λ stream. does (caster_end names given s k stream))

-- before that the key file is read, and accepted if it is the broadcaster's and fresh; otherwise it is refused
abbrev pub caster_key_stages : CasterNames → List Arrival → SessionData → Stages
caster_key_stages names given s = fresh_key_stage true names.key s (caster_stream_stages names given s)

-- before both the session is read
abbrev pub caster_stages : CasterNames → List Arrival → Stages
caster_stages names given = session_stage names.session (caster_key_stages names given)

abbrev pub caster_plan : CasterNames → List Arrival → Content → Plan
caster_plan names given = plan_by (caster_stages names given)

-- The session, the key file and the stream exist. The session is accepted, the key file is the broadcaster's and fresh, and the stream
-- fits.
pub record CasterAccepted (names : CasterNames) (content : Content) (s : SessionData) (k : Secrets) (stream : List ℕ) : Type 0 where
  pub in_session : HasSession names.session content s
  pub bytes : List ℕ
  pub read : readable content names.key ≡ Some bytes
  pub is : fresh_key_of true s bytes ≡ Ok k
  pub stream_read : readable content names.stream ≡ Some stream
  pub fits : stream_in s stream ≡ Ok stream
