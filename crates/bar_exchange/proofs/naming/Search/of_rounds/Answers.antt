use Rattle.std.proofs.Common.{◌≡◌, ◌∙◌, ◌+◌, ◌-◌, ◌<◌, ◌++◌, ℕ, suc, Bool, List, sym, ap, subst, arith}
use Rattle.std.specs.Option.{SomeIff, option_or}
use Rattle.bar_window.specs.declared.exchange.Exchange.{Exchange}
use Rattle.bar_window.specs.declared.exchange.XKind.TheVariants.{Balanced, Push}
use Rattle.bar_rules.specs.Peer.Evidence.{between, shared_from}
use Rattle.bar_ledger.specs.declared.ledger.Ledger.{Ledger}
use Rattle.bar_ledger.specs.Code.Naming.{names}
use Rattle.bar_exchange.specs.Code.Naming.{passing_among}
use Rattle.bar_exchange.proofs.Passing.{passing_round}
use Rattle.bar_exchange.proofs.naming.Search.of_rounds.Goals as goal

-- the rounds that are left start with the current one
left : (test : List ℕ → Bool) (l : Ledger) (x : Exchange) (q first count after round : ℕ) → after < count → round ≡ first + after
    → passing_among test l x (shared_from l.me q (first + after) (count - after))
    ≡ option_or (passing_among test l x (between l.me q round Balanced ++ between l.me q round Push))
    (passing_among test l x (shared_from l.me q (first + (after + 1)) (count - (after + 1))))
left test l x q first count after round below is =
    let more : count - after ≡ suc (count - (after + 1)) = omega (arith, below) in
    let here : first + after ≡ round = omega (arith, is) in
    let next : round + 1 ≡ first + (after + 1) = omega (arith, is) in
    (λ i. passing_among test l x (shared_from l.me q (here i) (more i)))
    ∙ passing_round test l x l.me q round (count - (after + 1))
    ∙ (λ i. option_or (passing_among test l x (between l.me q round Balanced ++ between l.me q round Push))
    (passing_among test l x (shared_from l.me q (next i) (count - (after + 1)))))

pub returns-in-Some : goal.returns-in-Some
returns-in-Some g c fits =
    let l : Ledger = c.args.self.now.ledger.now in
    let test : List ℕ → Bool = names (g.V.Verifier.leaf_named c.args.self.now.verifier.now) (g.V.Verifier.signature_len c.args.self.now.verifier.now) c.args.self.now.leaf in
    let is : c.in_ok-round.round ≡ c.args.first + c.loop-after.after =
    (subst (λ o. SomeIff o (c.args.first + c.loop-after.after < 4294967296) (c.args.first + c.loop-after.after)) c.in_ok-round.was c.checked_add.ensures).1
    in
    ap
    (λ o.
    option_or o
    (passing_among test l c.args.self.now.x
    (shared_from l.me c.args.self.now.party (c.args.first + (c.loop-after.after + 1)) (c.args.count - (c.loop-after.after + 1)))))
    c.in-Some.ensures
    ∙ sym (left test l c.args.self.now.x c.args.self.now.party c.args.first c.args.count c.loop-after.after c.in_ok-round.round (omega (arith, c.loop-after-test.true)) is)
    ∙ sym c.loop-after.invariant

pub loop-after-preserved : goal.loop-after-preserved
loop-after-preserved g c =
    let l : Ledger = c.args.self.now.ledger.now in
    let test : List ℕ → Bool = names (g.V.Verifier.leaf_named c.args.self.now.verifier.now) (g.V.Verifier.signature_len c.args.self.now.verifier.now) c.args.self.now.leaf in
    let is : c.in_ok-round.round ≡ c.args.first + c.loop-after.after =
    (subst (λ o. SomeIff o (c.args.first + c.loop-after.after < 4294967296) (c.args.first + c.loop-after.after)) c.in_ok-round.was c.checked_add.ensures).1
    in
    c.loop-after.invariant
    ∙ left test l c.args.self.now.x c.args.self.now.party c.args.first c.args.count c.loop-after.after c.in_ok-round.round (omega (arith, c.loop-after-test.true)) is
    ∙ ap
    (λ o.
    option_or o
    (passing_among test l c.args.self.now.x
    (shared_from l.me c.args.self.now.party (c.args.first + (c.loop-after.after + 1)) (c.args.count - (c.loop-after.after + 1)))))
    (sym c.in_default.ensures)
