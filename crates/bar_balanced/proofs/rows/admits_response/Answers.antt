use Rattle.std.proofs.Common.{◌≡◌, ◌≤◌, ◌+◌, ◌∙◌, Bool, true, false, ◌&&◌, refl, sym, ap, arith}
use Rattle.std.proofs.lemmas.Bool.{le-leb, leb-true}
use Rattle.bar_window.specs.declared.exchange.Exchange.{Exchange}
use Rattle.bar_window.specs.declared.exchange.Role.TheVariants.{Initiator}
use Rattle.bar_wire.specs.declared.kind.Kind.TheVariants as kinds
use Rattle.bar_rules.specs.Peer.Knowledge.{has_said_of, is_in_time}
use Rattle.bar_balanced.proofs.rows.admits_response.Goals as goal

all_three : (a b c d : Bool) → a ≡ true → c ≡ true → d ≡ b → d ≡ ((a && b) && c)
all_three true b true d p q e = e ∙ with_true b
  where
    with_true : (b : Bool) → b ≡ (b && true)
    with_true true = refl
    with_true false = refl
all_three true b false d p q e = absurd (cc)
all_three false b c d p q e = absurd (cc)

pub returns : goal.returns
returns c me k from to r holds h life is =
    let by : c.args.ledger.now.round ≤ c.args.x.round + 2 = leb-true _ _ (sym c.is_within.ensures ∙ c.if-not-is_within.false) in
    let x : c.args.x.round ≡ r = ap (λ (x : Exchange). x.round) is in
    let asked : c.has_said.result ≡ true = search in
    let said : has_said_of k kinds.Request c.args.x Initiator ≡ true =
    h.said kinds.Request c.args.x Initiator (omega (arith, h.round)) ∙ sym c.has_said.ensures ∙ asked
    in
    all_three _ _ (is_in_time me.session k kinds.Response r) _ (ap (λ (x : Exchange). has_said_of k kinds.Request x Initiator) (sym is) ∙ said)
    (le-leb _ _ (omega (arith, h.round)))
    (c.has_digests.ensures me k holds)
