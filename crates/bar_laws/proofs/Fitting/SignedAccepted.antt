-- What a party signs is accepted under its key.
use Rattle.bar_rules.specs.Peer.Signing.{leaf_for}
use Rattle.bar_lms.specs.Schemes.{leaves_by}
use Rattle.bar_session.specs.Fits.{Fits, key_in}
use Rattle.bar_rules.specs.Peer.Knowledge.{known}
use Rattle.bar_rules.specs.Peer.Log.{Log, Said}
use Rattle.bar_rules.specs.Member.{Session, Member, IsMember, key_of_party}
use Rattle.bar_rules.specs.Peer.Rules.{IsObedient}
use Rattle.bar_rules.specs.Secrets.{signature_of}
use Rattle.bar_rules.specs.Values.{message_bytes, is_signed_by}
use Rattle.bar_wire.specs.Datagram.{Message, Datagram}
use Rattle.bar_laws.specs.Leaves.{KeepsLeaves}
use Rattle.std.proofs.Common.{◌≡◌, ◌∙◌, ℕ, ◌<◌, true, List, [], sym, ap, subst}
use Rattle.std.specs.Prelude.{Option, Some, slice_get, unwrap_or, Contains}
use Rattle.bar_laws.proofs.Logs.{signed_accepted, said-rule, SaidIn, was-said}
use Rattle.bar_laws.proofs.Runs.{keeps-leaves, said-contains}

key-is : (s : Session) (p : ℕ) (k : List ℕ) → slice_get s.keys p ≡ Some k → key_of_party s p ≡ k
key-is s p k e = ap (λ (o : Option (List ℕ)). unwrap_or o []) e

-- a message that is signed with one of the key's leaves
pub signed-accepted : (s : Session) (party : ℕ) (secret : List ℕ) (leaf : ℕ) (m : Message) → Fits s party secret → m.from ≡ party → leaf < leaves_by s.top s.params
    → is_signed_by s (record { message = m; signature = signature_of (record { session = s; party = party; secret = secret }) leaf (message_bytes s m) }) ≡ true
signed-accepted s party secret leaf m fits from below =
    let key : key_of_party s m.from ≡ key_in s secret = ap (key_of_party s) from ∙ key-is s party (key_in s secret) fits.key in
    rw key (signed_accepted s.top s.params s.shape.id secret leaf (message_bytes s m) below)

-- each datagram that a member signed
pub said-accepted : (me : Member) (log : Log) (d : Datagram) → IsMember me → IsObedient me log → SaidIn log d → is_signed_by me.session d ≡ true
said-accepted me log d is h s =
    let keeps : KeepsLeaves me log = keeps-leaves me log is.session h in
    let c : Contains log (Said d) = said-contains log d s in
    let from : d.message.from ≡ me.party = (said-rule me log d (was-said log d s) h).rule.mine in
    subst (λ z. is_signed_by me.session z ≡ true) (sym (keeps.stays d c))
    (signed-accepted me.session me.party me.secret (leaf_for (known me log) d.message) d.message is.fits from (keeps.below d c))
