use Rattle.std.proofs.Common.{arith}
use Rattle.std.proofs.lemmas.Bool.{and_parts}
use Rattle.bar_window.specs.Terms.{plain_terms}
use Rattle.bar_terms.specs.Table.{no_lists}
use Rattle.bar_judge.specs.Code.Parts.{plain_briefcase}
use Rattle.bar_proof.proofs.BadItems.{HasCounts, counts-are}
use Rattle.bar_proof.proofs.items.bad_round_by.Goals as goal

pub unseal-opening-requires-clause-valid : goal.unseal-opening-requires-clause-valid
unseal-opening-requires-clause-valid c =
    let s = c.args.session.now in
    rw c.cap-cap.ensures
    (c.valid_terms_can_promise.ensures.any s.cap s.shape.life c.args.x.round no_lists (plain_terms c.args.case.now.terms) (and_parts _ _ c.requires.valid).0)

pub unseal-opening-requires-clause-whole : goal.unseal-opening-requires-clause-whole
unseal-opening-requires-clause-whole c =
    let counts : HasCounts c.args.session.now (plain_briefcase c.args.case.now) = counts-are c.args.session.now (plain_briefcase c.args.case.now) (and_parts _ _ c.requires.valid).1 in
    rw c.cap-cap.ensures (omega (arith, c.requires.whole, counts.updates, counts.junk))

pub promise-requires-clause-valid : goal.promise-requires-clause-valid
promise-requires-clause-valid c =
    let s = c.args.session.now in
    rw c.cap-cap.ensures
    (c.valid_terms_can_promise.ensures.any s.cap s.shape.life c.args.x.round no_lists (plain_terms c.args.case.now.terms) (and_parts _ _ c.requires.valid).0)
