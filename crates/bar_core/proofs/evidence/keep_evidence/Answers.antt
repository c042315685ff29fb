use Rattle.std.proofs.Common.{ℕ, ◌∷◌, subst, arith}
use Rattle.bar_bytes.specs.Code.Rooms.{kept_in}
use Rattle.bar_wire.specs.Evidence.{other}
use Rattle.bar_core.proofs.Entries.{KeepsWhatFits, keeps_one, keeps_two, long_with_one, long_with_two}
use Rattle.bar_core.proofs.evidence.keep_evidence.Goals as goal

pub returns-in-Some-clause-kept : goal.returns-in-Some-clause-kept
returns-in-Some-clause-kept c =
    let evidence = c.args.evidence.now in
    let old = kept_in c.args.rooms.now in
    let new = kept_in c.keep_two.new.rooms in
    subst (λ (n : ℕ). KeepsWhatFits old new n c.args.rooms.now.size (evidence.one.now ∷ other evidence.two)) c.from-number.ensures
    (keeps_two old new c.from-number.result c.args.rooms.now.size evidence.one.now c.in-Some.two evidence.two c.in-Some.is
    c.keep_two.ensures.kept)

pub returns-in-None-clause-kept : goal.returns-in-None-clause-kept
returns-in-None-clause-kept c =
    let evidence = c.args.evidence.now in
    let old = kept_in c.args.rooms.now in
    let new = kept_in c.keep_one.new.rooms in
    subst (λ (n : ℕ). KeepsWhatFits old new n c.args.rooms.now.size (evidence.one.now ∷ other evidence.two)) c.from-number.ensures
    (keeps_one old new c.from-number.result c.args.rooms.now.size evidence.one.now evidence.two c.in-None.is c.keep_one.ensures.kept)

pub returns-in-Some-clause-unfit : goal.returns-in-Some-clause-unfit
returns-in-Some-clause-unfit c big =
    let evidence = c.args.evidence.now in
    c.keep_two.ensures.unfit (omega (arith, big, long_with_two evidence.one.now c.in-Some.two evidence.two c.in-Some.is))

pub returns-in-None-clause-unfit : goal.returns-in-None-clause-unfit
returns-in-None-clause-unfit c big =
    let evidence = c.args.evidence.now in
    c.keep_one.ensures.unfit (omega (arith, big, long_with_one evidence.one.now evidence.two c.in-None.is))
