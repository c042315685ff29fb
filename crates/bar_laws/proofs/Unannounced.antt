-- No trusted peer is announced evicted.
use Rattle.bar_rules.specs.Peer.Log.{HasSigned, Heard, Log, first_heard, kept, names_party}
use Rattle.bar_rules.specs.Peer.Rules.{IsObedient}
use Rattle.bar_rules.specs.Broadcaster.Sending.{caster_log_after}
use Rattle.bar_rules.specs.World.World.{initial, member}
use Rattle.bar_wire.specs.Bodies.{evictions_in}
use Rattle.bar_wire.specs.Datagram.{Body, Datagram, Evict, is_signed, kind_of}
use Rattle.bar_wire.specs.Grammar.{MaySend}
use Rattle.bar_wire.specs.declared.kind.Kind.TheVariants as kinds
use Rattle.bar_laws.specs.OwnRuns.{inputs_of}
use Rattle.bar_laws.specs.Parties.{IsCastersLog, NobodyIsAnnounced, after}
use Rattle.std.proofs.Common.{◌≡◌, ◌∙◌, ℕ, true, false, List, [], refl, ap, subst, eqb, arith}
use Rattle.std.specs.Prelude.{Option, Some, None, is_some, slice_get}
use Rattle.std.specs.List.{list_any}
use Rattle.std.proofs.lemmas.Bool.{both_ways, ne_eqb}
use Rattle.bar_laws.proofs.Broadcasts.{NamesKept, run-names}
use Rattle.bar_laws.proofs.Logs.{WasHeard, allowed-at, first_heard-was, was-heard-fits}
use Rattle.bar_laws.proofs.Judging.{heard-signed, signed-said}
use Rattle.bar_laws.proofs.Runs.{heard-in}
use Rattle.bar_laws.proofs.Worlds.{IsSound, broadcaster-runs, nobody-accused, opened-sound, run-sound, steps-keep}

-- only a notice names a party
is-notice : (b : Body) (q : ℕ) → list_any (λ p. eqb p q) (evictions_in b) ≡ true → (round : ℕ) × (parties : List ℕ) × (b ≡ Evict round parties)
is-notice (Evict round parties) q e = (round, parties, refl)
is-notice _ q e = cc

pub nobody-announced : NobodyIsAnnounced
nobody-announced setup trusted moves h peer announced mine theirs low at q = go (first_heard (names_party announced) mine) refl
  where
    sound : IsSound setup trusted (after setup moves)
    sound = run-sound setup trusted (initial setup) moves (steps-keep setup h.setup_is) (opened-sound setup trusted h.setup_is.parties) h.unforged

    obedient : IsObedient (member setup peer) mine
    obedient = (sound.proper peer mine at).0 (ne_eqb peer 0 (λ z. absurd (omega (arith, low, z))))

    caster : Log
    caster = caster_log_after (member setup 0) setup.stream (inputs_of setup moves 0)

    caster-is : IsCastersLog (after setup moves) caster
    caster-is = (broadcaster-runs setup moves h.setup_is).log

    none : kept caster announced ≡ None
    none = nobody-accused setup trusted moves h 0 announced caster theirs (record { trust = h.broadcaster; log_is = caster-is }) q

    names-kept : NamesKept caster
    names-kept = run-names (member setup 0) setup.stream (inputs_of setup moves 0) [] (λ d s. absurd s)

    named : (d : Datagram) → (was : WasHeard mine d) → list_any (λ p. eqb p announced) (evictions_in d.message.body) ≡ true → ⊥
    named d was e =
        let notice = is-notice d.message.body announced e in
        let sign : is_signed d.message.body ≡ true = ap is_signed notice.2 in
        let al = allowed-at (member setup peer) mine was.before (Heard d) was.place obedient in
        let may : MaySend setup.session.shape kinds.Evict d.message.from d.message.to =
        subst (λ b. MaySend setup.session.shape (kind_of b) d.message.from d.message.to) notice.2 (was-heard-fits (member setup peer) mine d was obedient).may_send in
        let said : HasSigned caster d =
        sound.heard peer mine d at (heard-in mine d was) d caster al.0.1 sign (ap trusted may.0 ∙ h.broadcaster) (heard-signed (member setup peer) was.before d al.0.0 sign)
        (ap (slice_get (after setup moves).logs) may.0 ∙ caster-is) in
        both_ways (is_some (kept caster announced)) (ap is_some none) (names-kept d (signed-said caster d said) announced e)

    go : (o : Option Datagram) → first_heard (names_party announced) mine ≡ o → is_some o ≡ false
    go None e = refl
    go (Some d) e = let was = first_heard-was (names_party announced) mine d e in absurd (named d was.0 was.1)
