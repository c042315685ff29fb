-- The evidence is kept once, and the peers are listed again.
use Rattle.std.proofs.Common.{refl, arith}
use Rattle.bar_wire.specs.Evidence.{datagrams_of}
use Rattle.bar_caster.proofs.Listing.{evicts, stays}
use Rattle.bar_caster.proofs.evictions.Evictions.evict.Goals as goal
use Rattle.bar_caster.proofs.evictions.Evictions.evict.Goals.{then-party-eq0-via-then-party-eq0, then-party-eq0-via-else-party-eq0+then-self-party}

pub returns-then-party-eq0-clause-kept : goal.returns-then-party-eq0-clause-kept
returns-then-party-eq0-clause-kept c = λ s log h none range fits.
    stays s c.args.self.now log c.args.party (datagrams_of c.args.evidence.now) h
    (λ peer. elim c.then-party-eq0.branch [
      | then-party-eq0-via-then-party-eq0 w ↦ omega (arith, peer.0, w.if-party-eq0.true)
      | then-party-eq0-via-else-party-eq0+then-self-party w ↦ omega (arith, peer.1, h.peers, w.if-self-party.true)
    ])

pub returns-clause-kept : goal.returns-clause-kept
returns-clause-kept c = λ s log h none range fits.
    evicts s c.args.self.now _ log c.args.party (datagrams_of c.args.evidence.now) h
    (omega (arith, c.if-party-eq0.false), omega (arith, c.if-self-party.false, h.peers))
    none (c.keep_evidence.ensures.kept range fits) refl
    c.list_evicted.ensures.listed
