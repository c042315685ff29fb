-- The next content fits the buffer.
use Rattle.std.proofs.Common.{List, ℕ, ap, subst}
use Rattle.std.specs.Prelude.{Option, option_copied}
use Rattle.bar_peer.specs.Code.Playing.{PlaysFirst}
use Rattle.bar_peer.specs.Code.StandsFor.{contents_left}
use Rattle.bar_peer.proofs.Giving.Lengths.{content-given}
use Rattle.bar_peer.proofs.as_core.PeerCore.give_content.Goals as goal

pub returns-clause-gives : goal.returns-clause-gives
returns-clause-gives g c =
    let p = c.args.self.now in
    let last = c.next_played.follows.lender-at-none in
    let rest = contents_left last.memory.store last.playing in
    content-given p.memory.store p.playing c.in_ok-content.content.now c.args.buf.now c.put.new.out rest c.min-len.result c.put.result
    (subst (λ (o : Option (List ℕ)). PlaysFirst o (contents_left p.memory.store p.playing) rest) (ap option_copied c.in_ok-content.was)
    c.next_played.follows.holds-at-none.3)
    c.requires
    c.min-len.ensures
    c.put.ensures
