use Rattle.std.proofs.Common.{rules, ◌≡◌, ◌∙◌, ◌&&◌, true, sym, ap}
use Rattle.std.specs.Prelude.{is_some}
use Rattle.bar_wire.specs.Datagram.{Message, is_signed, place_of}
use Rattle.bar_wire.specs.Code.Views.{datagram}
use Rattle.bar_rules.specs.Peer.Admission.{is_named_again}
use Rattle.bar_peer.proofs.Admitting.Namesakes.{named_like}
use Rattle.bar_peer.proofs.memory.Memory.is_heard_again.Goals as goal
use Rattle.bar_bytes.proofs.Options.{some-copied}

pub returns-then-is_some : goal.returns-then-is_some
returns-then-is_some c k bytes memory view in_time =
    let v = c.args.arrival.now.view in
    let s = c.args.self.now.who.session in
    let m : Message = (datagram s.shape v).message in
    let signed : is_signed m.body ≡ true = view.signed.0 (search rules) in
    let told : c.is_some-then-is_some.result ≡ is_some c.heard_like.result = search in
    told
    ∙ sym (some-copied c.heard_like.result)
    ∙ ap is_some (sym (c.heard_like.ensures k memory in_time))
    ∙ named_like s k v.from v.to v.body c.in_default.not-Manifest c.in_default.not-Evict
    ∙ ap (λ b. b && is_named_again k (place_of m) m.body) (sym signed)
