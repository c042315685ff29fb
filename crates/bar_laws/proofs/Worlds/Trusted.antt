-- What holds among trusted parties after any moves.
use Rattle.bar_rules.specs.Broadcaster.Sending.{evicted}
use Rattle.bar_rules.specs.Broadcaster.Stream.{peers_of}
use Rattle.bar_rules.specs.Peer.Log.{Heard, kept}
use Rattle.bar_rules.specs.World.World.{Move, Setup, initial, member}
use Rattle.bar_laws.specs.Parties.{after, ForgesNothing, NobodyIsEvicted, NobodyIsAccused, KeysOpenWell, TablesAreExtended, HeardWasSaid}
use Rattle.std.specs.List.{list_all}
use Rattle.std.specs.Prelude.{Some, None, is_some, Contains, slice_get, slice_index_or}
use Rattle.bar_laws.proofs.Logs.{all-filter, allowed-at}
use Rattle.bar_laws.proofs.Judging.{heard-signed, heard-was}
use Rattle.bar_laws.proofs.Runs.{heard-in}
use Rattle.std.proofs.Common.{◌≡◌, ℕ, zero, suc, ◌<◌, ◌≤◌, Bool, true, false, List, [], ◌∷◌, length, ap, sym, subst, eqb, arith}
use Rattle.std.proofs.lemmas.Bool.{and_parts, both_ways, ne_eqb}
use Rattle.bar_laws.proofs.Worlds.SoundWorlds.{IsSound, steps-keep, run-sound, opened-sound, cast-member, has-log}
use Rattle.bar_laws.proofs.Worlds.Evictions.{caster-keeps-none, peer-keeps-none}
use Rattle.bar_laws.proofs.Worlds.Openings.{key-opens-well}
use Rattle.bar_laws.proofs.Worlds.Released.{table-extended}

pub sound-after : (setup : Setup) (trusted : ℕ → Bool) (moves : List Move) → ForgesNothing setup trusted moves → IsSound setup trusted (after setup moves)
sound-after setup trusted moves h = run-sound setup trusted (initial setup) moves (steps-keep setup h.setup_is) (opened-sound setup trusted h.setup_is.parties) h.unforged

not-zero : (p : ℕ) → 1 ≤ p → eqb p 0 ≡ false
not-zero p low = ne_eqb p 0 (λ z. absurd (omega (arith, low, z)))

pub nobody-accused : NobodyIsAccused
nobody-accused setup trusted moves h zero accused mine theirs p q =
    let sound = sound-after setup trusted moves h in
    caster-keeps-none setup trusted (after setup moves) accused theirs mine (cast-member setup accused h.setup_is q.low (sound.peers accused theirs q.log_is)) sound h.broadcaster q.trust (not-zero accused q.low) q.log_is p.log_is
nobody-accused setup trusted moves h (suc accuser) accused mine theirs p q =
    let sound = sound-after setup trusted moves h in
    let caster = has-log setup trusted (after setup moves) 0 sound (omega arith) in
    peer-keeps-none setup trusted (after setup moves) (suc accuser) accused mine theirs caster.0 (cast-member setup accused h.setup_is q.low (sound.peers accused theirs q.log_is)) sound h.broadcaster q.trust
    (not-zero (suc accuser) (omega arith)) (not-zero accused q.low) p.log_is q.log_is caster.1

-- if something is in the part of a list that passes, it passes
contained-passes : (p : ℕ → Bool) (xs : List ℕ) (x : ℕ) → list_all p xs ≡ true → Contains xs x → p x ≡ true
contained-passes p [] x all c = absurd (omega (arith, c.1))
contained-passes p (y ∷ xs) x all c = go c.0 c.1 c.2 (and_parts _ _ all) (contained-passes p xs x)
  where
    go : (k : ℕ) → k < length (y ∷ xs) → slice_index_or (y ∷ xs) k x ≡ x → (p y ≡ true) × (list_all p xs ≡ true) → (list_all p xs ≡ true → Contains xs x → p x ≡ true) → p x ≡ true
    go zero below at all f = subst (λ z. p z ≡ true) at all.0
    go (suc k) below at all f = f all.1 (k, omega (arith, below), at)

pub nobody-evicted : NobodyIsEvicted
nobody-evicted setup trusted moves h peer log caster p at has =
    let sound = sound-after setup trusted moves h in
    let none : kept caster peer ≡ None = caster-keeps-none setup trusted (after setup moves) peer log caster (cast-member setup peer h.setup_is p.low (sound.peers peer log p.log_is)) sound h.broadcaster p.trust (not-zero peer p.low) p.log_is at in
    let some : is_some (kept caster peer) ≡ true = contained-passes (λ q. is_some (kept caster q)) (evicted setup.session caster) peer (all-filter (λ q. is_some (kept caster q)) (peers_of setup.session)) has in
    both_ways _ (ap is_some none) some

pub keys-open-well : KeysOpenWell
keys-open-well setup trusted moves h receiver sender mine theirs before d k p q key =
    let sound = sound-after setup trusted moves h in
    let caster = has-log setup trusted (after setup moves) 0 sound (omega arith) in
    key-opens-well setup trusted (after setup moves) receiver sender mine theirs caster.0 before d k sound h.broadcaster q.trust (not-zero receiver p.low) (not-zero sender q.low) p.log_is q.log_is caster.1
    (record { after = key.later; split = key.split }) key.is_key key.from

pub tables-extended : TablesAreExtended
tables-extended setup trusted moves h peer log caster p at =
    table-extended setup trusted (after setup moves) peer log caster (sound-after setup trusted moves h) h.broadcaster (not-zero peer p.low) p.log_is at

pub heard-said : HeardWasSaid
heard-said setup trusted moves h peer sayer mine theirs d low at is has sign from =
    let sound = sound-after setup trusted moves h in
    let was = heard-was mine d has in
    let al = allowed-at (member setup peer) mine was.before (Heard d) was.place ((sound.proper peer mine at).0 (not-zero peer low)) in
    sound.heard peer mine d at (heard-in mine d was) d theirs al.0.1 sign (subst (λ z. trusted z ≡ true) (sym from) is.trust)
    (heard-signed (member setup peer) was.before d al.0.0 sign) (subst (λ z. slice_get (after setup moves).logs z ≡ Some theirs) (sym from) is.log_is)
