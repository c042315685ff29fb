-- The given bytes are the concatenated digests of the message.
use Rattle.std.proofs.Common.{◌∙◌, arith}
use Rattle.std.specs.Simd.{first_chunks}
use Rattle.bar_wire.proofs.Lists.{chunks_joined}
use Rattle.bar_caster.proofs.Announced.{same-manifest}
use Rattle.bar_caster.proofs.announcing.write_manifest.Goals as goal

pub write_to_all-requires-clause-body : goal.write_to_all-requires-clause-body
write_to_all-requires-clause-body c = record { windows = tt; whole = c.requires.whole }

pub write_to_all-requires-clause-short : goal.write_to_all-requires-clause-short
write_to_all-requires-clause-short c = omega (arith, c.requires.whole, c.ranges.count.fits)

pub returns-clause-written : goal.returns-clause-written
returns-clause-written c = λ list many given.
    let parts = chunks_joined 32 c.args.count c.args.digests.now c.requires.whole in
    c.write_to_all.ensures.written
    ∙ same-manifest c.args.session.now.shape c.args.round (first_chunks 32 c.args.count c.args.digests.now) list (parts.long ∙ many)
    (parts.joined ∙ given)

pub returns-clause-end : goal.returns-clause-end
returns-clause-end c = omega (arith, c.write_to_all.ensures.end, c.requires.whole)
