use Rattle.std.proofs.Common.{◌≡◌, ◌∙◌, Some, true, [], sym, ap, subst, arith}
use Rattle.std.proofs.lemmas.List.{length-append}
use Rattle.std.specs.Bool.{MatchBool}
use Rattle.bar_wire.specs.Datagram.{Datagram}
use Rattle.bar_wire.specs.Kinds.{is_signed_kind}
use Rattle.bar_rules.specs.Secrets.{signature_of}
use Rattle.bar_rules.specs.Values.{message_bytes}
use Rattle.bar_rules.specs.Peer.Signing.{leaf_for}
use Rattle.bar_peer.specs.Code.Giving.{IsSignedFor}
use Rattle.bar_peer.specs.Code.Memory.{member_of}
use Rattle.bar_session.proofs.Levels.{session_short}
use Rattle.bar_peer.proofs.Giving.Signatures.{behind}
use Rattle.bar_peer.proofs.peer.Peer.sign.Goals as goal

pub returns : goal.returns
returns g c k d h due is =
    let p = c.args.self.now in
    let me = member_of p.memory.who in
    let sealed : is_signed_kind c.args.say.kind ≡ true = search in
    let for : IsSignedFor me k c.args.say d =
    subst (λ b. MatchBool b (IsSignedFor me k c.args.say d) (d.signature ≡ [])) sealed due.signature
    in
    let leaf : c.in_ok-leaf.leaf ≡ leaf_for k d.message =
    (let both : Some c.in_ok-leaf.leaf ≡ Some (leaf_for k d.message) = sym c.in_ok-leaf.was ∙ c.leaf.ensures k d h due.recent for in cc)
    in
    let front = c.split_at_mut-message.result.0.now in
    let signature : _ ≡ d.signature =
    c.sign.ensures.value
    ∙ (λ i. g.S.Scheme.signed (c.verifier-scheme.ensures i) c.in_ok-leaf.leaf front)
    ∙ p.signs.signs c.in_ok-leaf.leaf front
    ∙ (λ i. signature_of me (leaf i) ((c.split_at_mut-message.ensures.front ∙ is) i))
    ∙ sym (ap (λ (e : Datagram). e.signature) for.signature)
    in (
      behind c.args.len c.sign.result c.args.buf.now front c.sign.new.out (message_bytes me.session d.message) d.signature
          c.split_at_mut-message.ensures.front_len
          c.split_at_mut-message.ensures.front
          is
          signature,
      omega (
        arith,
        length-append front c.sign.new.out,
        c.sign.auto.out,
        c.sign.ensures.length,
        c.split_at_mut-message.ensures.front_len,
        c.split_at_mut-message.ensures.back_len,
        c.requires.room,
        c.requires.short,
        ap g.S.Verifier.signature_len c.verifier-scheme.ensures,
        p.signs.length_is,
        p.memory.who.is_member.session.signatures,
        session_short me.session p.memory.who.is_member.session,
      ),
    )
