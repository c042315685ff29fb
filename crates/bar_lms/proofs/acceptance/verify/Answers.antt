use Rattle.std.proofs.Common.{◌≡◌, sym, rules, arith, true, false}
use Rattle.std.specs.Bool.{Decides}
use Rattle.bar_lms.specs.Signature.{number_at, candidate}
use Rattle.bar_lms.specs.Acceptance.{is_well_formed}
use Rattle.bar_lms.proofs.Decided.{form_test, not_accepted, root_decides, same_decides}
use Rattle.bar_lms.proofs.StepLemmas.{none_taken, all_taken, few_taken}
use Rattle.bar_lms.proofs.acceptance.verify.Goals as goal

pub returns-then-not-is_well_formed : goal.returns-then-not-is_well_formed
returns-then-not-is_well_formed g c =
    let k = c.args.key.now in
    let message = c.args.message.now in
    let sig = c.args.sig.now in
    let ill : is_well_formed k sig ≡ false = sym c.if-not-is_well_formed.ensures in
    record {
      test = not_accepted k message sig ill;
      exact = same_decides k message sig false (not_accepted k message sig ill);
      cost = omega (arith, none_taken k message sig ill);
      bound = few_taken k message sig;
    }

pub number_at-requires : goal.number_at-requires
number_at-requires g c =
    let form = (form_test c.args.key.now c.args.sig.now).0 (sym c.if-not-is_well_formed.ensures) in
    omega (arith, form.length)

pub candidate-root-requires : goal.candidate-root-requires
candidate-root-requires g c =
    let form = (form_test c.args.key.now c.args.sig.now).0 (sym c.if-not-is_well_formed.ensures) in
    record { leaf = rw c.number_at.ensures form.leaf; length = form.length }

pub returns : goal.returns
returns g c =
    let k = c.args.key.now in
    let message = c.args.message.now in
    let sig = c.args.sig.now in
    let well : is_well_formed k sig ≡ true = sym c.if-not-is_well_formed.ensures in
    let root : Decides c.eq.result (candidate k (number_at sig 0) message sig ≡ k.root) = search rules in
    let test = root_decides k message sig c.eq.result well root in
    record {
      test = test;
      exact = same_decides k message sig c.eq.result test;
      cost = rw (all_taken k message sig well, ← c.number_at.ensures) c.candidate-root.ensures.cost;
      bound = few_taken k message sig;
    }
