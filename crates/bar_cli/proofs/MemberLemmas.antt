-- The peer of accepted files is a member of its session, so what holds for every peer holds for it.
use Rattle.std.proofs.Common.{◌≡◌, ◌∙◌, ◌≤◌, ◌<◌, ℕ, List, [], Bool, true, false, Ok, Option, Some, None, is_some, refl, sym, ap, arith}
use Rattle.std.proofs.lemmas.Bool.{false≢true}
use Rattle.bar_outside.specs.Disk.{Content}
use Rattle.bar_wire.specs.Inputs.{Input}
use Rattle.bar_seeds.specs.declared.secrets.Secrets.{Secrets}
use Rattle.bar_roster.specs.KeyFile.{key_file_of}
use Rattle.bar_session.specs.SessionData.{SessionData}
use Rattle.bar_rules.specs.Member.{Member, IsMember}
use Rattle.bar_rules.specs.Members.{member_by}
use Rattle.bar_window.specs.declared.exchange.Exchange.{Exchange}
use Rattle.bar_wire.specs.Datagram.{Datagram}
use Rattle.bar_rules.specs.Peer.Exchanges.{partner_in}
use Rattle.bar_rules.specs.Peer.Log.{Log, kept}
use Rattle.bar_rules.specs.Peer.Run.{log_after, sends_of}
use Rattle.std.specs.List.{AllByRecursion}
use Rattle.bar_laws.specs.Always.{OfEachPeer}
use Rattle.bar_laws.specs.Again.{SaysCasesAgain}
use Rattle.bar_laws.specs.Balance.{GoesToPartner, IsBalanced, totals_of}
use Rattle.bar_laws.specs.Broadcasting.{AdmitsLateManifests}
use Rattle.bar_laws.specs.Debts.{ServesNoDebtor}
use Rattle.bar_laws.specs.Framing.{IsNotFramed}
use Rattle.bar_laws.specs.Leaves.{KeepsLeaves}
use Rattle.bar_laws.specs.Obedience.{IsRuled}
use Rattle.bar_laws.specs.Evidence.{BadKeysLeaveEvidence, KeptEvidenceIsShown, OpensBadly}
use Rattle.bar_cli.specs.Headline.{AtEachMoment, HasProof, KeepsTheRules}
use Rattle.bar_session_files.specs.Accepting.{fresh_key_of, secrets_of_key, session_of}
use Rattle.bar_session_files.proofs.Accepted.{AreHeld, AreInRange, in-range_here}
use Rattle.bar_party_commands.specs.PeerPlan.{PeerAccepted, PeerNames}
use Rattle.bar_cli.specs.Replay.Plan.{ReplayFiles, Accepted, peer_of}

-- the peer of an accepted key, fresh or not, is a member of its session
member-of : AreHeld → AreInRange → (fresh : Bool) (text bytes : List ℕ) (s : SessionData) (k : Secrets) → session_of text ≡ Ok s →
    key_file_of s false fresh bytes ≡ Ok k → IsMember (member_by s k)
member-of held ranged fresh text bytes s k session key =
    let holds = held s false fresh bytes k key in
    let low : 1 ≤ k.party = holds.role in
    let above : 0 < k.party = omega arith in
    record { session = in-range_here ranged text s session; peer = (above, holds.party); fits = holds.fits }

pub is-member : AreHeld → AreInRange → (names : ReplayFiles) (content : Content) (a : Accepted names content) →
    IsMember (peer_of names content a)
unfolding secrets_of_key
is-member held ranged names content a =
    member-of held ranged false a.by_key.in_session.bytes a.by_key.in_key.bytes a.session a.secrets a.by_key.in_session.is a.by_key.in_key.is

is-live_member : AreHeld → AreInRange → (names : PeerNames) (content : Content) (s : SessionData) (k : Secrets) →
    PeerAccepted names content s k → IsMember (member_by s k)
unfolding fresh_key_of
is-live_member held ranged names content s k a = member-of held ranged true a.in_session.bytes a.bytes s k a.in_session.is a.is

-- if a property holds for every peer and its inputs, it holds for the peer of a replay at each moment of its recording
pub of-each_moment : AreHeld → AreInRange → (P : Member → List Input → Type 0) → OfEachPeer P →
    (names : ReplayFiles) (content : Content) (a : Accepted names content) → AtEachMoment P (peer_of names content a) a.inputs
of-each_moment held ranged P always names content a = λ earlier later is.
    always (peer_of names content a) (is-member held ranged names content a) earlier

-- if a key opens badly, evidence is kept, and the evidence shows a fault
pub proves-bad_keys : BadKeysLeaveEvidence → KeptEvidenceIsShown → (me : Member) (inputs : List Input) (x : Exchange) (key : Datagram) →
    OpensBadly me (log_after me [] inputs) x key → HasProof me (log_after me [] inputs) (partner_in me x)
proves-bad_keys caught shown me inputs x key bad = from-kept (kept log (partner_in me x)) refl (caught me inputs x key bad)
  where
    log : Log
    log = log_after me [] inputs

    from-kept : (o : Option (List (List ℕ))) → kept log (partner_in me x) ≡ o → is_some (kept log (partner_in me x)) ≡ true →
        HasProof me log (partner_in me x)
    from-kept None is some = absurd (false≢true (sym (ap (λ o. is_some o) is) ∙ some))
    from-kept (Some evidence) is some =
        record { evidence = evidence; held = is; shown = λ wider extends. shown me inputs (partner_in me x) evidence wider is extends }

-- the property holds at each moment over the inputs that the peer of a fresh key takes
pub at-each_moment : AreHeld → AreInRange → (P : Member → List Input → Type 0) → OfEachPeer P → (names : PeerNames) (content : Content)
    (s : SessionData) (k : Secrets) → PeerAccepted names content s k → (inputs : List Input) → AtEachMoment P (member_by s k) inputs
at-each_moment held ranged P always names content s k accepted inputs = λ earlier later front.
    always (member_by s k) (is-live_member held ranged names content s k accepted) earlier

pub keeps-rules : OfEachPeer IsRuled → OfEachPeer (λ me inputs. (x : Exchange) → IsBalanced (totals_of me inputs x)) →
    OfEachPeer (λ me inputs. AllByRecursion (GoesToPartner me) (sends_of me inputs)) → BadKeysLeaveEvidence → KeptEvidenceIsShown →
    OfEachPeer (λ me inputs. IsNotFramed me (log_after me [] inputs)) → OfEachPeer (λ me inputs. KeepsLeaves me (log_after me [] inputs)) →
    OfEachPeer ServesNoDebtor → OfEachPeer (λ me inputs. SaysCasesAgain me (log_after me [] inputs)) →
    OfEachPeer (λ me inputs. AdmitsLateManifests me (log_after me [] inputs)) → OfEachPeer KeepsTheRules
keeps-rules signed balance keys caught shown unframed leaves debts again late = λ me member inputs. record {
  signed = signed me member inputs;
  balance = balance me member inputs;
  keys = keys me member inputs;
  evidence = proves-bad_keys caught shown me inputs;
  shown = shown me inputs;
  unframed = unframed me member inputs;
  leaves = leaves me member inputs;
  debts = debts me member inputs;
  again = again me member inputs;
  late = late me member inputs;
}
