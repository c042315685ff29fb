use Rattle.std.proofs.Common.{◌≡◌, ℕ, ◌+◌, cond, arith, sym, ap, ◌∙◌}
use Rattle.bar_window.specs.declared.update.UpdateId.{UpdateId}
use Rattle.bar_rules.specs.Member.{Member}
use Rattle.bar_caster.specs.Code.Fanout.{AreRanksOf, count_before}
use Rattle.bar_caster.proofs.FanoutLemmas.{counted_more, peers_counted}
use Rattle.bar_caster.proofs.fanout.count_before.Goals as goal
use Rattle.bar_caster.proofs.fanout.count_before.Goals.{then-stands_before, else-stands_before}

pub loop-i-preserved : goal.loop-i-preserved
loop-i-preserved c =
    let more :
    (me : Member) (u : UpdateId) → AreRanksOf me u c.args.ranks.now
    → count_before me u (c.loop-i.i + 1) c.args.peer ≡ c.loop-i.before + cond c.stands_before.result 1 0 =
    λ me u are.
    counted_more me u c.args.ranks.now c.loop-i.i c.args.peer c.from.result c.stands_before.result are
    c.loop-i-test.true c.requires.first c.requires.last c.from.ensures c.stands_before.ensures
    ∙ ap (λ n. n + cond c.stands_before.result 1 0) (sym (c.loop-i.invariant.counted me u are)) in
    elim c.if-stands_before.branch [
      | then-stands_before w ↦
          let one : ◌≡◌ {A = ℕ} (cond c.stands_before.result 1 0) 1 = ap {B = ℕ} (λ b. cond b 1 0) w.if-stands_before.true in
          record { few = omega arith; counted = λ me u are. omega (arith, more me u are, one) }
      | else-stands_before w ↦
          let none : ◌≡◌ {A = ℕ} (cond c.stands_before.result 1 0) 0 = ap {B = ℕ} (λ b. cond b 1 0) w.if-stands_before.false in
          record { few = omega arith; counted = λ me u are. omega (arith, more me u are, none) }
    ]

pub returns : goal.returns
returns c = λ me u are.
    let all : c.loop-i.i ≡ me.session.shape.peers = omega (arith, peers_counted me u c.args.ranks.now are) in
    c.loop-i.invariant.counted me u are ∙ ap (λ n. count_before me u n c.args.peer) all
