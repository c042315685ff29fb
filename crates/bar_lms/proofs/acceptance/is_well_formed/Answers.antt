use Rattle.std.proofs.Common.{rules}
use Rattle.std.specs.Bool.{Decides, one_answer}
use Rattle.bar_lms.proofs.Decided.{WellFormed, form_test, malformed}
use Rattle.bar_lms.proofs.acceptance.is_well_formed.Goals as goal

pub returns-then-sig-sig_len : goal.returns-then-sig-sig_len
returns-then-sig-sig_len c = malformed _ _ (λ f. search rules)

pub returns-then-number_at-number : goal.returns-then-number_at-number
returns-then-number_at-number c = malformed _ _ (λ f. search rules)

pub returns : goal.returns
returns c = let exact : Decides _ (WellFormed c.args.key.now c.args.sig.now) = search rules in one_answer _ _ exact (form_test _ _)
