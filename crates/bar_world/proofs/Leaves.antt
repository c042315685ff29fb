-- An accepted signature names a leaf, and a liar signs as a member.
use Rattle.bar_lms.proofs.Decided.{under_test}
use Rattle.bar_lms.specs.Params.{levels, signature_len}
use Rattle.bar_lms.specs.Schemes.{signed_by}
use Rattle.bar_lms.specs.Secret.{Secret, signed}
use Rattle.bar_lms.specs.Signature.{number_at}
use Rattle.bar_lms.specs.declared.params.Height.{Height}
use Rattle.bar_lms.proofs.HssLemmas.{signature_some}
use Rattle.bar_wire.specs.Datagram.{Datagram}
use Rattle.bar_wire.specs.Places as places
use Rattle.bar_wire.specs.Code.Views.{datagram}
use Rattle.bar_wire.specs.declared.shape.Shape.{Shape}
use Rattle.bar_wire.specs.declared.view.View.{View}
use Rattle.bar_rules.specs.Member.{Session, Member, key_of_party}
use Rattle.bar_rules.specs.Secrets.{signature_of}
use Rattle.bar_rules.specs.Values.{datagram_of, message_bytes}
use Rattle.bar_rules.proofs.Single.{single_verifies}
use Rattle.bar_world.specs.declared.lies.Liar.{Liar}
use Rattle.bar_world.specs.Lies.{IsAcceptedIn, IsLiar, HasLeafIfSigned}
use Rattle.bar_world.specs.Network.{lie_in, delivery_by}
use Rattle.std.proofs.Common.{◌≡◌, ℕ, ◌^◌, ◌<◌, ◌≤◌, List, length, sym, ap, ◌∙◌, subst, arith}
use Rattle.std.specs.Prelude.{Option, Some, None}

pub accepted-has-leaf : (s : Session) (bytes : List ℕ) (d : Datagram) → s.top ≡ None → IsAcceptedIn s bytes → datagram_of s bytes ≡ Some d
    → HasLeafIfSigned s d
accepted-has-leaf s bytes d single all reads sign =
    let key = key_of_party s d.message.from in
    let message = message_bytes s d.message in
    let a = (under_test s.params key message d.signature).0 (single_verifies s single key message d.signature ∙ all d reads sign) in
    let long : length d.signature ≡ signature_len a.key.params = a.accepted.length in
    let some : 4 ≤ signature_len a.key.params = signature_some a.key.params in
    record {
      long = omega (arith, long, some);
      leaf = subst (λ p. number_at d.signature 0 < 2 ^ levels p.height) a.params a.accepted.leaf;
    }

-- how bytes are delivered, given their view
pub told-delivery : (me : Member) (s : Shape) (bytes read : List ℕ) (v : View) (number to : ℕ) (lie : Option (List ℕ))
    → me.session.shape ≡ s → me.session.top ≡ None → read ≡ bytes → Some (datagram s v) ≡ places.datagram_of s read → IsAcceptedIn me.session bytes
    → (HasLeafIfSigned me.session (datagram me.session.shape v) → lie ≡ lie_in me (Some (datagram me.session.shape v)))
    → delivery_by number to lie ≡ delivery_by number to (lie_in me (places.datagram_of me.session.shape bytes))
told-delivery me s bytes read v number to lie same single is told all lies =
    let reads : datagram_of me.session bytes ≡ Some (datagram me.session.shape v) =
    subst (λ z. places.datagram_of z bytes ≡ Some (datagram z v)) (sym same) (ap (λ b. places.datagram_of s b) (sym is) ∙ sym told)
    in
    ap (λ z. delivery_by number to z)
    (lies (accepted-has-leaf me.session bytes (datagram me.session.shape v) single all reads) ∙ ap (λ z. lie_in me z) (sym reads))

-- the liar's signature is this member's
pub liar_signs : (me : Member) (liar : Liar) (leaf : ℕ) (message : List ℕ) → IsLiar me liar
    → signature_of me leaf message ≡ signed liar.signer leaf message
unfolding signed_by
liar_signs me liar leaf message is =
    ap (λ (top : Option Height). signed_by top me.session.params me.session.shape.id me.secret leaf message) is.single_is
    ∙ ap (λ (s : Secret). signed s leaf message) is.signer_is
