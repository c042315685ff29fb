use Rattle.std.proofs.Common.{◌≡◌, ◌∙◌, sym, arith, true, true≢false}
use Rattle.bar_lms.specs.Acceptance.{is_key_of}
use Rattle.bar_lms.proofs.StepLemmas.{few_under}
use Rattle.bar_seal.proofs.Under.{IsKey, read_key, read_other, read_none, accepted_by, steps_by, accepted_by_none, steps_by_none}
use Rattle.bar_seal.proofs.lms.accepts_under.Goals as goal

pub returns-then-same_types : goal.returns-then-same_types
returns-then-same_types g c =
    let p = c.args.params in
    let bytes = c.args.key.now in
    let message = c.args.message.now in
    let sig = c.args.sig.now in
    let same : c.in-Ok.key.params ≡ p = sym c.params.ensures ∙ c.same_types.ensures.0 c.if-same_types.true in
    let is : IsKey p bytes c.in-Ok.key = read_key p bytes c.in-Ok.key c.read.result c.in-Ok.is c.in-Ok.ensures.types c.read.ensures.of_types same in
    record {
      exact = c.verify.ensures.test ∙ accepted_by p bytes message sig c.in-Ok.key is;
      cost = omega (arith, steps_by p bytes message sig c.in-Ok.key is);
      bound = few_under p bytes message sig;
    }

pub returns-else-same_types : goal.returns-else-same_types
returns-else-same_types g c =
    let p = c.args.params in
    let bytes = c.args.key.now in
    let message = c.args.message.now in
    let sig = c.args.sig.now in
    let other : c.in-Ok.key.params ≡ p → ⊥ = λ same. true≢false (sym (c.same_types.ensures.1 (c.params.ensures ∙ same)) ∙ c.if-same_types.false) in
    let none : is_key_of p bytes ≡ true → ⊥ = read_other p bytes c.in-Ok.key c.read.result c.in-Ok.is c.read.ensures.of_types other in
    record {
      exact = c.if-same_types.false ∙ accepted_by_none p bytes message sig none;
      cost = omega (arith, steps_by_none p bytes message sig none);
      bound = few_under p bytes message sig;
    }

pub returns-in-Err : goal.returns-in-Err
returns-in-Err g c =
    let p = c.args.params in
    let bytes = c.args.key.now in
    let message = c.args.message.now in
    let sig = c.args.sig.now in
    let none : is_key_of p bytes ≡ true → ⊥ = read_none p bytes c.in-Err.field-0 c.read.result c.in-Err.is c.read.ensures.of_types in
    record {
      exact = accepted_by_none p bytes message sig none;
      cost = omega (arith, steps_by_none p bytes message sig none);
      bound = few_under p bytes message sig;
    }
