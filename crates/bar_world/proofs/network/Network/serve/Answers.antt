use Rattle.bar_world.proofs.Decided.{served-ok, counts-ok}
use Rattle.bar_world.proofs.network.Network.serve.Goals as goal
use Rattle.std.proofs.Common.{refl}

pub returns-clause-plays : goal.returns-clause-plays
returns-clause-plays c =
    served-ok c.args.self.now _ c.pop_front.new.self c.next_word-number.new.self c.in-Some.entry c.next_word-number.result _
    c.in-Some.ensures.items c.requires.words c.next_word-number.ensures c.decide.ensures.plays

pub returns-clause-room : goal.returns-clause-room
returns-clause-room c = counts-ok c.args.self.now _ c.decide.new.self c.decide.result refl refl refl c.decide.ensures.room
