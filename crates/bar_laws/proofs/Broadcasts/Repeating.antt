-- The manifest of the round before is sent again in slot 2, and a peer that lacks it admits it.
use Rattle.bar_laws.specs.Broadcasting.{AdmitsLateManifests, RepeatsManifests, SignsOnce, manifest_of, said_again}
use Rattle.bar_lms.specs.Schemes.{leaves_by}
use Rattle.bar_rules.specs.Broadcaster.Sending.{caster_log_after, caster_step, repeat_all, repeat_manifest, repeats_manifest, served}
use Rattle.bar_rules.specs.Broadcaster.Stream.{manifest_list, peers_of}
use Rattle.bar_rules.specs.Member.{Member, Session}
use Rattle.bar_rules.specs.Peer.Admission.{is_admitted}
use Rattle.bar_rules.specs.Peer.Knowledge.{known, this_round}
use Rattle.bar_rules.specs.Peer.Log.{Log, Ticked, first_said, has_kind_and_round, kept, ticks}
use Rattle.bar_rules.specs.Peer.Rules.{IsObedient}
use Rattle.bar_rules.specs.Runs.{Outcome, begun}
use Rattle.bar_rules.specs.Values.{is_signed_by}
use Rattle.bar_session.specs.Sessions.{IsSession}
use Rattle.bar_session.specs.Time.{round_after, slot_after}
use Rattle.bar_wire.specs.Datagram.{Datagram, Manifest}
use Rattle.bar_wire.specs.Grammar.{is_third}
use Rattle.bar_wire.specs.Inputs as event
use Rattle.bar_wire.specs.Limits.{leaves_a_round}
use Rattle.bar_wire.specs.declared.kind.Kind.TheVariants as kinds
use Rattle.std.proofs.Common.{◌≡◌, ◌∙◌, ℕ, ◌+◌, ◌-◌, ◌*◌, ◌≤◌, Bool, true, false, not, ◌&&◌, [], ◌∷◌, refl, sym, ap, subst, cond, eqb, arith}
use Rattle.std.specs.Prelude.{Option, Some, filter, is_none, is_some, map, nat_le, nat_lt}
use Rattle.std.proofs.lemmas.Bool.{and_from, and_parts, cond-true, eq-eqb, le-leb, leb-true, lt-ltb}
use Rattle.bar_bytes.proofs.Options.{or-none}
use Rattle.bar_laws.proofs.Logs.{unannounced}
use Rattle.bar_laws.proofs.Fitting.{caster-accepted}
use Rattle.bar_laws.proofs.Broadcasts.SentToAll.{all-flat, to_each, with_sends}
use Rattle.bar_laws.proofs.Broadcasts.Signing.{signs-once}
use Rattle.bar_laws.proofs.Broadcasts.Steps.{ticks-on}

-- ---- the broadcaster

pub manifests-repeated : RepeatsManifests
manifests-repeated me stream is inputs early slot = record {
  sends = ap (λ (out : Outcome Log). out.sends) all;
  log_after = ap (λ (out : Outcome Log). out.state) all;
}
  where
    log : Log
    log = caster_log_after me stream inputs

    m : ℕ
    m = round_after (ticks log + 1)

    d : Datagram
    d = manifest_of me stream (m - 1)

    ticked : Outcome Log
    ticked = begun (Ticked ∷ log)

    -- the round before is one of the session, and its manifest was said
    said : repeats_manifest me.session m ≡ true → first_said (has_kind_and_round kinds.Manifest (m - 1)) (Ticked ∷ log) ≡ Some d
    said again =
        let within = and_parts _ _ (and_parts (is_third me.session.shape) _ again).1 in
        let low : 2 ≤ m = leb-true _ _ within.0 in
        let high : m ≤ me.session.shape.rounds + 1 = leb-true _ _ within.1 in
        let signs : SignsOnce me stream log = signs-once me stream is inputs in
        or-none (first_said (has_kind_and_round kinds.Manifest (m - 1)) log)
        ∙ signs.manifests (m - 1) (omega (arith, low)) (omega (arith, high)) (omega arith)

    by : (b : Bool) → repeats_manifest me.session m ≡ b
        → cond b (repeat_manifest me.session (m - 1) ticked) ticked
        ≡ with_sends ticked (cond b (map (λ q. (q, d)) (served me.session log)) [])
    by true again =
        ap (repeat_all me.session ticked) (said again)
        ∙ all-flat ticked (served me.session (Ticked ∷ log)) d
        ∙ (λ i. with_sends ticked (to_each (filter (λ q. is_none (or-none (kept log q) i)) (peers_of me.session)) d))
    by false again = refl

    all : caster_step me stream log event.Tick ≡ with_sends ticked (said_again me stream log)
    all =
        ticks-on me stream log early
        ∙ cond-true (eqb (slot_after (ticks log + 1)) 2) _ _ (eq-eqb _ _ slot)
        ∙ by (repeats_manifest me.session m) refl

-- ---- a peer

pub late-admitted : (me : Member) (log : Log) → IsObedient me log → AdmitsLateManifests me log
unfolding is_admitted
late-admitted me log obedient caster stream is same round low high now none =
    and_from _ _ (and_from _ _ (and_from _ _ (and_from _ _ refl known_caster) accepted) new) in-time
  where
    d : Datagram
    d = manifest_of caster stream round

    mine : IsSession me.session
    mine = subst IsSession same is.session

    known_caster : not ((known me log).is_announced 0) ≡ true
    known_caster = ap not (unannounced me log obedient)

    accepted : is_signed_by me.session d ≡ true
    accepted =
        let few : leaves_a_round * caster.session.shape.rounds ≤ leaves_by caster.session.top caster.session.params = is.session.leaves in
        let inside : round ≤ caster.session.shape.rounds = subst (λ (s : Session). round ≤ s.shape.rounds) (sym same) high in
        subst (λ (s : Session). is_signed_by s d ≡ true) same
        (caster-accepted caster (2 * (round - 1)) (Manifest round (manifest_list caster.session stream round)) is (omega (arith, few, inside, low)))

    new : not (is_some ((known me log).manifest round)) ≡ true
    new = ap (λ (o : Option Datagram). not (is_some o)) none

    in-time : (nat_le round (this_round (known me log) + 1) && nat_lt (this_round (known me log)) (round + me.session.shape.life)) ≡ true
    in-time =
        and_from _ _ (le-leb round (this_round (known me log) + 1) (omega (arith, now)))
        (lt-ltb (this_round (known me log)) (round + me.session.shape.life) (omega (arith, now, mine.shape.life_low)))
