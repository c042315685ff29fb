use Rattle.bar_rules.specs.Code.Giving.{IsGiven}
use Rattle.bar_peer.specs.Code.Memory.{member_of}
use Rattle.bar_peer.proofs.Giving.Next.{written_is, never_unwritten}
use Rattle.bar_peer.proofs.peer.Peer.give_said.Goals as goal

pub returns-in_err-len : goal.returns-in_err-len
returns-in_err-len g c k d h due =
    let me = member_of c.args.self.now.memory.who in
    absurd {A = IsGiven me.session d c.from_residual.result c.write.new.buf}
    (never_unwritten me k c.args.say d c.write.new.buf due (c.in_err-len.ensures.written k h due.recent due.can))

pub returns : goal.returns
returns g c k d h due =
    c.sign.ensures k d h due
    (written_is (member_of c.args.self.now.memory.who) k c.args.say d c.in_ok-len.len c.write.new.buf due
    (c.in_ok-len.ensures.written k h due.recent due.can))
