-- The peers that the broadcaster of a world evicted.
use Rattle.bar_wire.specs.Evidence.{evidence_bytes}
use Rattle.bar_wire.specs.Inputs.{Input}
use Rattle.bar_core.specs.Rules.{Rules}
use Rattle.bar_rules.specs.Broadcaster.Sending.{caster_log_after, evicted}
use Rattle.bar_rules.specs.Broadcaster.Stream.{peers_of}
use Rattle.bar_rules.specs.Member.{Member}
use Rattle.bar_rules.specs.Peer.Log.{Log, kept}
use Rattle.bar_rules.specs.World.World.{Setup, Move, member}
use Rattle.bar_laws.specs.Parties.{ForgesNothing, IsCastersLog, NobodyIsEvicted, after}
use Rattle.bar_laws.specs.OwnRuns.{inputs_of, BroadcasterRuns, PeersRun}
use Rattle.bar_caster.specs.Code.Core.{caster_rules}
use Rattle.bar_caster.specs.Code.Memory.{member_of, stream_of}
use Rattle.bar_caster.specs.Code.StandsFor.{log_of}
use Rattle.bar_world.specs.declared.world.World.{World as KeptWorld}
use Rattle.bar_world.specs.Code.Kept.{StandsFor}
use Rattle.std.proofs.Common.{◌≡◌, ◌≤◌, ◌<◌, ◌∙◌, ℕ, zero, suc, ◌+◌, Bool, true, List, refl, sym, ap, subst, arith}
use Rattle.std.specs.Prelude.{Option, Some, None, Contains, filter, is_some, option_map}
use Rattle.std.specs.List.{All, range_with_len}
use Rattle.std.proofs.lemmas.List.Elements.{All-cons, All-contains, All-filter, All-nil, filter_agree}

-- the evicted peers by the rules of a core
abbrev evicted_by : Rules → List Input → List ℕ
evicted_by rules inputs = filter (λ q. is_some (rules.evidence inputs q)) (range_with_len 1 rules.peers)

some-mapped : {X Y : Type 0} (f : X → Y) (o : Option X) → is_some o ≡ is_some (option_map f o)
some-mapped f None = refl
some-mapped f (Some x) = refl

by-rules : (me : Member) (stream : List ℕ) (inputs : List Input)
    → evicted me.session (caster_log_after me stream inputs) ≡ evicted_by (caster_rules me stream) inputs
by-rules me stream inputs =
    filter_agree _ _ (λ q. some-mapped evidence_bytes (kept (caster_log_after me stream inputs) q)) (peers_of me.session)

-- the evicted peers in the memory are those of the definitions
pub same-evicted : (setup : Setup) (moves : List Move) (log : Log) (w : KeptWorld) → BroadcasterRuns → StandsFor setup moves w
    → IsCastersLog (after setup moves) log
    → evicted w.caster.memory.session (log_of w.caster.memory (inputs_of setup moves 0)) ≡ evicted setup.session log
same-evicted setup moves log w runs s is =
    let inputs : List Input = inputs_of setup moves 0 in
    let same : Some (caster_log_after (member setup 0) setup.stream inputs) ≡ Some log = sym (runs setup moves s.setup_is).log ∙ is in
    let log_is : caster_log_after (member setup 0) setup.stream inputs ≡ log = cc in
    by-rules (member_of w.caster.memory) (stream_of w.caster.memory) inputs
    ∙ ap (λ (r : Rules). evicted_by r inputs) s.caster.rules_are
    ∙ sym (by-rules (member setup 0) setup.stream inputs)
    ∙ ap (λ l. evicted setup.session l) log_is

-- ---- no honest peer is evicted

in-range : (low high a n : ℕ) → low ≤ a → a + n ≤ high → All (λ q. (low ≤ q) × (q < high)) (range_with_len a n)
in-range low high a zero from to = All-nil _
in-range low high a (suc n) from to =
    All-cons (λ q. (low ≤ q) × (q < high)) a (range_with_len (a + 1) n) (omega arith, omega arith)
    (in-range low high (a + 1) n (omega arith) (omega arith))

pub nobody-honest : (setup : Setup) (trusted : ℕ → Bool) (moves : List Move) (w : KeptWorld) (listed : List ℕ) → BroadcasterRuns → PeersRun
    → NobodyIsEvicted → StandsFor setup moves w → ForgesNothing setup trusted moves
    → listed ≡ evicted w.caster.memory.session (log_of w.caster.memory (inputs_of setup moves 0))
    → (peer : ℕ) → trusted peer ≡ true → Contains listed peer → ⊥
nobody-honest setup trusted moves w listed caster_runs peers_run nobody s forges is peer trust there =
    let log : Log = caster_log_after (member setup 0) setup.stream (inputs_of setup moves 0) in
    let caster : IsCastersLog (after setup moves) log = (caster_runs setup moves s.setup_is).log in
    let evicted_is : Contains (evicted setup.session log) peer =
    subst (λ l. Contains l peer) (is ∙ same-evicted setup moves log w caster_runs s caster) there
    in
    let n : ℕ = setup.session.shape.peers in
    let range : (1 ≤ peer) × (peer < n + 1) =
    All-contains (λ q. (1 ≤ q) × (q < n + 1)) (evicted setup.session log) peer
    (All-filter _ (λ q. (1 ≤ q) × (q < n + 1)) (peers_of setup.session) (in-range 1 (n + 1) 1 n (omega arith) (omega arith)))
    evicted_is
    in
    let high : peer ≤ n = omega (arith, range.1) in
    nobody setup trusted moves forges peer _ log
    (record { low = range.0; trust = trust; log_is = (peers_run setup moves s.setup_is peer range.0 high).log })
    caster
    evicted_is
