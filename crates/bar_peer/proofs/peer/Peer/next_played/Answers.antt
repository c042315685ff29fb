use Rattle.std.proofs.Common.{◌∙◌, ap, refl}
use Rattle.bar_peer.specs.Code.Playing.{content_in}
use Rattle.bar_peer.specs.Code.StandsFor.{contents_left}
use Rattle.bar_peer.proofs.Giving.Contents.{plays_none, plays_one}
use Rattle.bar_peer.proofs.peer.Peer.next_played.Goals as goal

pub returns-in_err-index : goal.returns-in_err-index
returns-in_err-index g c =
    let p = c.args.self.now in
    let plays = plays_none c.from_residual.result (contents_left p.memory.store p.playing) (contents_left p.memory.store c.next.new.self)
    c.from_residual.ensures
    c.in_err-index.ensures.next.0
    c.in_err-index.ensures.next.1
    in ((refl, λ _. tt, (refl, refl, refl, plays)), tt)

pub returns : goal.returns
returns g c =
    let p = c.args.self.now in
    let s = p.memory.store in
    let first = c.in_ok-index.ensures.next in
    let plays = plays_one c.content.result (content_in s c.next.new.self.round c.in_ok-index.index) (contents_left s p.playing)
    (contents_left s c.next.new.self)
    first.0
    c.content.ensures
    (ap (λ round. content_in s round c.in_ok-index.index) c.next.ensures.round ∙ first.1)
    first.2
    in ((refl, λ _. tt, (refl, refl, refl, plays)), tt)
