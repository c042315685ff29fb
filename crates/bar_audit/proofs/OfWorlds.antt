-- The inputs that a world's moves give trusted peers are recordings of their runs.
use Rattle.std.proofs.Common.{◌≡◌, ℕ, Bool, true, false, List, [], ◌∷◌, refl, sym, ap, ◌∙◌, subst, inl, inr, cond, eqb, arith}
use Rattle.std.proofs.lemmas.Bool.{eqb-true}
use Rattle.std.specs.List.{AllByRecursion, cons_option}
use Rattle.std.specs.Prelude.{Option, Some, None, slice_get, Contains}
use Rattle.bar_window.proofs.Ranges.{Contains-later}
use Rattle.bar_wire.specs.Datagram.{Datagram}
use Rattle.bar_wire.specs.Inputs.{Input}
use Rattle.bar_wire.specs.Inputs as event
use Rattle.bar_rules.specs.Member.{Session}
use Rattle.bar_rules.specs.Peer.Log.{Log, Ticked, Heard, Said, Kept, HasSaid, HasSigned}
use Rattle.bar_rules.specs.Peer.Run.{log_after}
use Rattle.bar_rules.specs.Values.{datagram_of}
use Rattle.bar_rules.specs.World.World.{Move, Setup, member}
use Rattle.bar_laws.specs.Heard.{IsSpelledIn}
use Rattle.bar_laws.specs.OwnRuns as own
use Rattle.bar_laws.specs.Parties.{after}
use Rattle.bar_laws.specs.Premises.{PeersAreMembers}
use Rattle.bar_audit.specs.Recordings.{datagrams_in, inputs_of}
use Rattle.bar_audit.specs.Worlds.{IsTrustedPeer, WorldsAreOfRuns, recordings_of}
use Rattle.bar_audit.proofs.Lists.{contains-cases, contains-here}

-- a datagram that inputs encode is encoded by the bytes of one of them
spelled-there : (s : Session) (inputs : List Input) (d : Datagram) → Contains (datagrams_in s inputs) d → IsSpelledIn s inputs d
spelled-there s [] d c = absurd (omega (arith, c.1))
spelled-there s (event.Tick ∷ inputs) d c =
    let w = spelled-there s inputs d c in
    record { bytes = w.bytes; came = Contains-later event.Tick (event.Datagram w.bytes) inputs w.came; spells = w.spells }
spelled-there s (event.Datagram bytes ∷ inputs) d c = go (spelled-there s inputs d) (datagram_of s bytes) refl c
  where
    later : IsSpelledIn s inputs d → IsSpelledIn s (event.Datagram bytes ∷ inputs) d
    later w = record { bytes = w.bytes; came = Contains-later (event.Datagram bytes) (event.Datagram w.bytes) inputs w.came; spells = w.spells }

    go : (Contains (datagrams_in s inputs) d → IsSpelledIn s inputs d) → (o : Option Datagram) → datagram_of s bytes ≡ o → Contains (cons_option o (datagrams_in s inputs)) d
        → IsSpelledIn s (event.Datagram bytes ∷ inputs) d
    go there None e c = later (there c)
    go there (Some x) e c =
        contains-cases (IsSpelledIn s (event.Datagram bytes ∷ inputs) d) x d (datagrams_in s inputs) c
        (λ same. record {
          bytes = bytes;
          came = contains-here (event.Datagram bytes) (event.Datagram bytes) inputs refl;
          spells = e ∙ ap Some same;
        })
        (λ more. later (there more))

-- what is signed is said
said-by : (log : Log) (d : Datagram) → HasSigned log d → HasSaid log d.message
said-by [] d h = absurd h
said-by (Said e ∷ log) d (inl is) = inl (ap (λ (x : Datagram). x.message) is)
said-by (Said e ∷ log) d (inr h) = inr (said-by log d h)
said-by (Ticked ∷ log) d h = said-by log d h
said-by (Heard e ∷ log) d h = said-by log d h
said-by (Kept q f ∷ log) d h = said-by log d h

-- a party whose recording is given is one of the peers, and has these inputs
given-of : (setup : Setup) (trusted : ℕ → Bool) (moves : List Move) (peers : List ℕ) (party : ℕ) (inputs : List Input)
    → AllByRecursion (IsTrustedPeer setup trusted) peers → inputs_of (recordings_of setup moves peers) party ≡ Some inputs
    → IsTrustedPeer setup trusted party × (own.inputs_of setup moves party ≡ inputs)
given-of setup trusted moves [] party inputs all given = cc
given-of setup trusted moves (q ∷ peers) party inputs all given = go (given-of setup trusted moves peers party inputs all.1) (eqb q party) refl given
  where
    go : (inputs_of (recordings_of setup moves peers) party ≡ Some inputs → IsTrustedPeer setup trusted party × (own.inputs_of setup moves party ≡ inputs))
        → (b : Bool) → eqb q party ≡ b → cond b (Some (own.inputs_of setup moves q)) (inputs_of (recordings_of setup moves peers) party) ≡ Some inputs
        → IsTrustedPeer setup trusted party × (own.inputs_of setup moves party ≡ inputs)
    go there true e given =
        let same : q ≡ party = eqb-true q party e in
        let is : own.inputs_of setup moves q ≡ inputs = cc in (
          subst (IsTrustedPeer setup trusted) same all.0,
          ap (own.inputs_of setup moves) (sym same) ∙ is,
        )
    go there false e given = there given

module _ (alone : own.PeersRun) (members : PeersAreMembers) (genuine : own.GivenIsGenuine) where
  pub worlds-of-runs : WorldsAreOfRuns
  worlds-of-runs setup trusted moves peers unforged all = record {
    members = λ party inputs given.
        let g = given-of setup trusted moves peers party inputs all given in members setup party unforged.setup_is g.0.low g.0.high;
    genuine = λ party receiver inputs others d given received stands sign from accepted.
        let g = given-of setup trusted moves peers party inputs all given in
        let r = given-of setup trusted moves peers receiver others all received in
        let w = spelled-there setup.session others d stands in
        let came : Contains (own.inputs_of setup moves receiver) (event.Datagram w.bytes) =
        subst (λ (is : List Input). Contains is (event.Datagram w.bytes)) (sym r.1) w.came
        in
        let log : Log = log_after (member setup party) [] (own.inputs_of setup moves party) in
        let at = (alone setup moves unforged.setup_is party g.0.low g.0.high).log in
        let trust = subst (λ n. trusted n ≡ true) (sym from) g.0.trust in
        let signed : HasSigned log d =
        genuine setup trusted moves unforged receiver w.bytes came d log w.spells sign trust accepted (ap (λ n. slice_get (after setup moves).logs n) from ∙ at)
        in
        subst (λ (is : List Input). HasSaid (log_after (member setup party) [] is) d.message) g.1 (said-by log d signed);
  }
