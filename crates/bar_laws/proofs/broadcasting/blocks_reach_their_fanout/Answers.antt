use Rattle.bar_laws.proofs.Broadcasts.{fanouts-whole, out-twice, serves-the-others, to-the-fanout}
use Rattle.bar_laws.proofs.broadcasting.blocks_reach_their_fanout.Goals as goal

pub returns-clause-serves : goal.returns-clause-serves
returns-clause-serves c = serves-the-others

pub returns-clause-receivers : goal.returns-clause-receivers
returns-clause-receivers c = to-the-fanout

pub returns-clause-whole : goal.returns-clause-whole
returns-clause-whole c = fanouts-whole

pub returns-clause-twice : goal.returns-clause-twice
returns-clause-twice c = out-twice
