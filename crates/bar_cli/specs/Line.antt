-- Which arguments are a valid command line, and what they request.
use Rattle.std.specs.Prelude.{◌==◌, ◌||◌, ◌++◌, ◌-◌, ◌^◌, ℕ, Bool, true, false, List, [], ◌∷◌, Option, None, Some, if◌then◌else◌, codes, is_err}
use Rattle.std.specs.Option.{option_and_then}
use Rattle.std.specs.Str.{bytes_eq}
use Rattle.bar_outside.specs.Disk.{Content}
use Rattle.bar_outside.specs.Plan.{Plan, ending}
use Rattle.bar_outside.specs.Wire.{Arrival}
use Rattle.bar_lms.specs.declared.params.Height.{Height}
use Rattle.bar_lms.specs.declared.params.Params.{Params}
use Rattle.bar_session.specs.Limits.{most_long_rounds, most_peers, most_rounds}
use Rattle.bar_arguments.specs.Numbers.{id_of, number_in}
use Rattle.bar_arguments.specs.Options.{values_of}
use Rattle.bar_child_processes.specs.Names.{SessionNames}
use Rattle.bar_party_commands.specs.CasterPlan.{CasterNames, caster_plan}
use Rattle.bar_party_commands.specs.PeerPlan.{PeerNames, peer_plan}
use Rattle.bar_cli.specs.declared.line.name.CommandName.{CommandName}
use Rattle.bar_cli.specs.declared.line.name.CommandName.TheVariants as commands
use Rattle.bar_cli.specs.Keygen.Types.{levels_of, types_of}
use Rattle.bar_cli.specs.Replay.Plan.{ReplayFiles, replay_plan}
use Rattle.bar_cli.specs.Keygen.Plan.{Keygen, keygen_plan, leaves_for}
use Rattle.bar_cli.specs.Audit.Plan.{AuditFiles, audit_plan}
use Rattle.bar_cli.specs.Judge.Plan.{JudgeFiles, judge_plan}
use Rattle.bar_cli.specs.Pack.{PackFiles, pack_plan}
use Rattle.bar_cli.specs.Verify.{VerifyFiles, verify_plan}
use Rattle.bar_cli.specs.Session.{session_plan}
use Rattle.bar_cli.specs.Simulate.{simulate_plan}
use Rattle.bar_cli.specs.Printing.{audit_may_print, judge_may_print, keygen_may_print, live_may_print, replay_may_print, session_may_print, simulate_may_print}

-- one constructor for each command
pub data Line : Type 0 where
  peer : (names : PeerNames) → Line
  broadcaster : (names : CasterNames) → Line
  replay : (names : ReplayFiles) → Line
  keygen : (asked : Keygen) → Line
  audit : (names : AuditFiles) → Line
  judge : (names : JudgeFiles) → Line
  pack : (names : PackFiles) → Line
  verify : (names : VerifyFiles) → Line
  session_run : (names : SessionNames) → Line
  simulate : (seed : ℕ) → Line

infixl 10 ◌>>=◌
abbrev ◌>>=◌ : {A B : Type 0} → Option A → (A → Option B) → Option B
o >>= f = option_and_then f o

-- ---- the options of each command, each exactly once and in any order, and the meaning of their values

-- a Unix time in milliseconds
abbrev pub time_of : List ℕ → Option ℕ
time_of word = number_in 0 (2 ^ 64 - 1) word

abbrev pub peer_options : List (List ℕ)
peer_options = codes "session" ∷ codes "key" ∷ codes "begin" ∷ codes "played" ∷ codes "recording" ∷ codes "found" ∷ []

abbrev pub peer_values : List (List ℕ) → Option Line
peer_values (session ∷ key ∷ begin ∷ played ∷ recording ∷ found ∷ []) = do
  begin_ms ← time_of begin
  Some (peer (record { session = session; key = key; begin_ms = begin_ms; played = played; recording = recording; found = found }))
peer_values _ = None

abbrev pub broadcaster_options : List (List ℕ)
broadcaster_options = codes "session" ∷ codes "key" ∷ codes "begin" ∷ codes "stream" ∷ codes "found" ∷ []

abbrev pub broadcaster_values : List (List ℕ) → Option Line
broadcaster_values (session ∷ key ∷ begin ∷ stream ∷ found ∷ []) = do
  begin_ms ← time_of begin
  Some (broadcaster (record { session = session; key = key; begin_ms = begin_ms; stream = stream; found = found }))
broadcaster_values _ = None

abbrev pub replay_options : List (List ℕ)
replay_options = codes "session" ∷ codes "key" ∷ codes "recording" ∷ codes "played" ∷ codes "found" ∷ []

abbrev pub replay_files : List (List ℕ) → Option Line
replay_files (session ∷ key ∷ recording ∷ played ∷ found ∷ []) =
    Some (replay (record { session = session; key = key; recording = recording; played = played; found = found }))
replay_files _ = None

abbrev pub keygen_options : List (List ℕ)
keygen_options = codes "party" ∷ codes "id" ∷ codes "rounds" ∷ codes "lms" ∷ codes "ots" ∷ codes "secret" ∷ codes "key" ∷ []

-- the numbers are in their ranges, with at most `most` rounds, and the id has sixteen hex digits
abbrev pub asked_by : ℕ → Option (Option Height × Params) → List ℕ → List ℕ → List ℕ → List ℕ → List ℕ → Option Line
asked_by most types party_word id_word rounds_word secret key = do
  party ← number_in 0 most_peers party_word
  id ← id_of id_word
  rounds ← number_in 1 most rounds_word
  levels ← types
  Some (keygen (record { party = party; id = id; rounds = rounds; top = levels.0; params = levels.1; secret = secret; key = key }))

abbrev pub keygen_values : List (List ℕ) → Option Line
keygen_values (party ∷ id ∷ rounds ∷ lms ∷ ots ∷ secret ∷ key ∷ []) = asked_by most_rounds (types_of lms ots) party id rounds secret key
keygen_values _ = None

-- a key of two levels
abbrev pub hsskeygen_options : List (List ℕ)
hsskeygen_options = codes "party" ∷ codes "id" ∷ codes "rounds" ∷ codes "top" ∷ codes "ots" ∷ codes "secret" ∷ codes "key" ∷ []

abbrev pub hsskeygen_values : List (List ℕ) → Option Line
hsskeygen_values (party ∷ id ∷ rounds ∷ top ∷ ots ∷ secret ∷ key ∷ []) =
    asked_by most_long_rounds (levels_of top ots) party id rounds secret key
hsskeygen_values _ = None

abbrev pub audit_options : List (List ℕ)
audit_options = codes "session" ∷ codes "results" ∷ codes "first" ∷ codes "last" ∷ []

abbrev pub audit_values : List (List ℕ) → Option Line
audit_values (session ∷ results ∷ first_word ∷ last_word ∷ []) = do
  first ← number_in 0 most_peers first_word
  last ← number_in 0 most_peers last_word
  Some (audit (record { session = session; results = results; first = first; last = last }))
audit_values _ = None

abbrev pub judge_options : List (List ℕ)
judge_options = codes "session" ∷ codes "table" ∷ codes "evidence" ∷ []

abbrev pub judge_files : List (List ℕ) → Option Line
judge_files (session ∷ table ∷ evidence ∷ []) = Some (judge (record { session = session; table = table; evidence = evidence }))
judge_files _ = None

abbrev pub pack_options : List (List ℕ)
pack_options = codes "session" ∷ codes "table" ∷ codes "evidence" ∷ codes "proof" ∷ []

abbrev pub pack_files : List (List ℕ) → Option Line
pack_files (session ∷ table ∷ evidence ∷ proof ∷ []) =
    Some (pack (record { session = session; table = table; evidence = evidence; proof = proof }))
pack_files _ = None

abbrev pub verify_options : List (List ℕ)
verify_options = codes "session" ∷ codes "proof" ∷ []

abbrev pub verify_files : List (List ℕ) → Option Line
verify_files (session ∷ proof ∷ []) = Some (verify (record { session = session; proof = proof }))
verify_files _ = None

abbrev pub session_options : List (List ℕ)
session_options = codes "session" ∷ codes "keys" ∷ codes "stream" ∷ codes "begin" ∷ codes "results" ∷ codes "program" ∷ []

-- the time is passed on as text
abbrev pub session_values : List (List ℕ) → Option Line
session_values (session ∷ keys ∷ stream ∷ begin ∷ results ∷ program ∷ []) = do
  begin_ms ← time_of begin
  Some (session_run (record { session = session; keys = keys; stream = stream; begin = begin; results = results; program = program }))
session_values _ = None

abbrev pub simulate_options : List (List ℕ)
simulate_options = codes "seed" ∷ []

abbrev pub simulate_values : List (List ℕ) → Option Line
simulate_values (seed_word ∷ []) = do
  seed ← number_in 0 (2 ^ 64 - 1) seed_word
  Some (simulate seed)
simulate_values _ = None

-- ---- a command by its name, with its options and the meaning of their values

abbrev pub command_named : List ℕ → Option CommandName
command_named word =
    if bytes_eq word (codes "peer") then Some commands.Peer
    else if bytes_eq word (codes "broadcaster") then Some commands.Broadcaster
    else if bytes_eq word (codes "replay") then Some commands.Replay
    else if bytes_eq word (codes "keygen") then Some commands.Keygen
    else if bytes_eq word (codes "hsskeygen") then Some commands.HssKeygen
    else if bytes_eq word (codes "audit") then Some commands.Audit
    else if bytes_eq word (codes "judge") then Some commands.Judge
    else if bytes_eq word (codes "pack") then Some commands.Pack
    else if bytes_eq word (codes "verify") then Some commands.Verify
    else if bytes_eq word (codes "session") then Some commands.Session
    else if bytes_eq word (codes "simulate") then Some commands.Simulate
    else None

abbrev pub options_of : CommandName → List (List ℕ)
options_of commands.Peer = peer_options
options_of commands.Broadcaster = broadcaster_options
options_of commands.Replay = replay_options
options_of commands.Keygen = keygen_options
options_of commands.HssKeygen = hsskeygen_options
options_of commands.Audit = audit_options
options_of commands.Judge = judge_options
options_of commands.Pack = pack_options
options_of commands.Verify = verify_options
options_of commands.Session = session_options
options_of commands.Simulate = simulate_options

abbrev pub asked_with : CommandName → List (List ℕ) → Option Line
asked_with commands.Peer values = peer_values values
asked_with commands.Broadcaster values = broadcaster_values values
asked_with commands.Replay values = replay_files values
asked_with commands.Keygen values = keygen_values values
asked_with commands.HssKeygen values = hsskeygen_values values
asked_with commands.Audit values = audit_values values
asked_with commands.Judge values = judge_files values
asked_with commands.Pack values = pack_files values
asked_with commands.Verify values = verify_files values
asked_with commands.Session values = session_values values
asked_with commands.Simulate values = simulate_values values

-- the command line that the arguments represent, if they are valid; the first argument names the command
abbrev pub line_of : List (List ℕ) → Option Line
line_of [] = None
line_of (word ∷ words) = do
  name ← command_named word
  values ← values_of (options_of name) words
  asked_with name values

abbrev pub usage : List ℕ
usage = codes "bar: usage" ++ 10 ∷ []

-- the plan of a command line, depending on what the link gives and on what the files hold
abbrev pub plan_of : Option Line → List Arrival → Content → Plan
plan_of None given = ending 2 usage
plan_of (Some (peer names)) given = peer_plan names given
plan_of (Some (broadcaster names)) given = caster_plan names given
plan_of (Some (replay names)) given = replay_plan names
plan_of (Some (keygen asked)) given = keygen_plan asked
plan_of (Some (audit names)) given = audit_plan names
plan_of (Some (judge names)) given = judge_plan names
plan_of (Some (pack names)) given = pack_plan names
plan_of (Some (verify names)) given = verify_plan names
plan_of (Some (session_run names)) given = session_plan names
plan_of (Some (simulate seed)) given = simulate_plan seed

-- the commands whose plan is all that they do; `session` also depends on what its children do
abbrev pub has_plan : Option Line → Bool
has_plan None = true
has_plan (Some (peer names)) = true
has_plan (Some (broadcaster names)) = true
has_plan (Some (replay names)) = true
has_plan (Some (keygen asked)) = true
has_plan (Some (audit names)) = true
has_plan (Some (judge names)) = true
has_plan (Some (pack names)) = true
has_plan (Some (verify names)) = true
has_plan (Some (session_run names)) = false
has_plan (Some (simulate seed)) = true

-- the statuses that a command line may return
abbrev pub is_status_of : Option Line → ℕ → Bool
is_status_of None status = status == 2 || status == 70
is_status_of (Some (peer names)) status =
    status == 0 || status == 3 || status == 4 || status == 5 || status == 6 || status == 7 || status == 70
is_status_of (Some (broadcaster names)) status =
    status == 0 || status == 3 || status == 4 || status == 5 || status == 6 || status == 7 || status == 8 || status == 70
is_status_of (Some (replay names)) status =
    status == 0 || status == 3 || status == 4 || status == 5 || status == 7 || status == 8 || status == 70
is_status_of (Some (keygen asked)) status = status == 0 || status == 3 || status == 4 || status == 7 || status == 8 || status == 70
is_status_of (Some (audit names)) status =
    status == 0 || status == 1 || status == 3 || status == 4 || status == 7 || status == 8 || status == 70
is_status_of (Some (judge names)) status =
    status == 0 || status == 1 || status == 3 || status == 4 || status == 7 || status == 8 || status == 70
is_status_of (Some (pack names)) status =
    status == 0 || status == 1 || status == 3 || status == 4 || status == 7 || status == 8 || status == 70
is_status_of (Some (verify names)) status =
    status == 0 || status == 1 || status == 3 || status == 4 || status == 7 || status == 8 || status == 70
is_status_of (Some (session_run names)) status =
    status == 0 || status == 3 || status == 4 || status == 7 || status == 9 || status == 70
is_status_of (Some (simulate seed)) status = status == 0 || status == 7 || status == 70

-- the statuses at which a command may have printed something on standard output
abbrev pub may_print : Option Line → ℕ → Bool
may_print None status = false
may_print (Some (peer names)) status = live_may_print status
may_print (Some (broadcaster names)) status = live_may_print status
may_print (Some (replay names)) status = replay_may_print status
may_print (Some (keygen asked)) status = keygen_may_print status
may_print (Some (audit names)) status = audit_may_print status
may_print (Some (judge names)) status = judge_may_print status
may_print (Some (pack names)) status = judge_may_print status
may_print (Some (verify names)) status = judge_may_print status
may_print (Some (session_run names)) status = session_may_print status
may_print (Some (simulate seed)) status = simulate_may_print status

-- the commands that use the link
abbrev pub uses_link : Option Line → Bool
uses_link None = false
uses_link (Some (peer names)) = true
uses_link (Some (broadcaster names)) = true
uses_link (Some (replay names)) = false
uses_link (Some (keygen asked)) = false
uses_link (Some (audit names)) = false
uses_link (Some (judge names)) = false
uses_link (Some (pack names)) = false
uses_link (Some (verify names)) = false
uses_link (Some (session_run names)) = false
uses_link (Some (simulate seed)) = false

-- the command that starts children
abbrev pub starts_children : Option Line → Bool
starts_children None = false
starts_children (Some (peer names)) = false
starts_children (Some (broadcaster names)) = false
starts_children (Some (replay names)) = false
starts_children (Some (keygen asked)) = false
starts_children (Some (audit names)) = false
starts_children (Some (judge names)) = false
starts_children (Some (pack names)) = false
starts_children (Some (verify names)) = false
starts_children (Some (session_run names)) = true
starts_children (Some (simulate seed)) = false

-- the command lines whose plan doesn't depend on the files and doesn't touch them
abbrev pub reads_nothing : Option Line → Bool
reads_nothing None = true
reads_nothing (Some (peer names)) = false
reads_nothing (Some (broadcaster names)) = false
reads_nothing (Some (replay names)) = false
reads_nothing (Some (keygen asked)) = is_err (leaves_for asked)
reads_nothing (Some (audit names)) = false
reads_nothing (Some (judge names)) = false
reads_nothing (Some (pack names)) = false
reads_nothing (Some (verify names)) = false
reads_nothing (Some (session_run names)) = false
reads_nothing (Some (simulate seed)) = true
