use Rattle.std.proofs.Common.{sym, subst, arith, List, ℕ, inl, inr}
use Rattle.std.proofs.lemmas.Bool.{false≢true}
use Rattle.bar_wire.specs.Grammar.{RisesTo}
use Rattle.bar_wire.proofs.Steps.{pairs_step}
use Rattle.bar_wire.proofs.entries.rises_to.Goals as goal

pub returns-then-party-last : goal.returns-then-party-last
returns-then-party-last c =
    let p = c.split_u16-party.result.0 in
    let items = pairs_step p c.loop.rest.now c.split_u16-party.result.1.now c.split_u16-party.ensures.is (omega arith) in (
      λ h. absurd (false≢true h),
      λ h. let all = subst (λ (x : List ℕ). RisesTo c.args.peers c.loop.last x) items (c.loop.invariant.1.1 h) in
          elim c.then-party-last.either [ inl e ↦ absurd (omega (arith, all.0, e)) | inr big ↦ absurd (omega (arith, all.1, big.1)) ],
    )

pub loop-preserved : goal.loop-preserved
loop-preserved c =
    let p = c.split_u16-party.result.0 in
    let items = pairs_step p c.loop.rest.now c.split_u16-party.result.1.now c.split_u16-party.ensures.is (omega arith) in (
      omega (arith, c.loop.invariant.0, c.split_u16-party.ensures.rest),
      (
        λ h. c.loop.invariant.1.0 (subst (λ (x : List ℕ). RisesTo c.args.peers c.loop.last x) (sym items) (omega arith, omega arith, h)),
        λ h. (subst (λ (x : List ℕ). RisesTo c.args.peers c.loop.last x) items (c.loop.invariant.1.1 h)).2,
      ),
    )
