-- The given bytes are the concatenated parties of the message.
use Rattle.std.proofs.Common.{◌≡◌, length, ap, ◌∙◌, arith}
use Rattle.bar_wire.specs.Places.{pairs}
use Rattle.bar_wire.proofs.FieldLengths.{length_parties}
use Rattle.bar_wire.proofs.Lists.{ArePairs, pairs_joined}
use Rattle.bar_caster.proofs.Announced.{same-evictions}
use Rattle.bar_caster.proofs.announcing.write_evictions.Goals as goal

pub write_to_all-requires-clause-body : goal.write_to_all-requires-clause-body
write_to_all-requires-clause-body c = record { windows = tt; whole = c.requires.whole }

pub write_to_all-requires-clause-short : goal.write_to_all-requires-clause-short
write_to_all-requires-clause-short c = omega (arith, c.requires.whole, c.ranges.count.fits)

pub returns-clause-written : goal.returns-clause-written
returns-clause-written c = λ evicted given.
    let bytes = c.args.parties.now in
    let parts : ArePairs c.args.count bytes = pairs_joined c.args.count bytes (λ i. (c.type_inv.parties i).fits) c.requires.whole in
    let long : length (pairs bytes) ≡ length evicted = omega (arith, parts.long, ap length given, length_parties evicted, c.requires.whole) in
    c.write_to_all.ensures.written
    ∙ same-evictions c.args.session.now.shape c.args.round (pairs bytes) evicted long (parts.joined ∙ given)

pub returns-clause-end : goal.returns-clause-end
returns-clause-end c = omega (arith, c.write_to_all.ensures.end, c.requires.whole)
