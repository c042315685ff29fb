use Rattle.std.proofs.Common.{◌≡◌, ◌∙◌, ◌+◌, ◌-◌, ℕ, List, false, sym, arith}
use Rattle.std.specs.List.{list_any}
use Rattle.bar_rules.specs.Peer.Evidence.{shared_from}
use Rattle.bar_rules.proofs.Shared.{shared_are}
use Rattle.bar_ledger.specs.declared.ledger.Ledger.{Ledger}
use Rattle.bar_ledger.specs.Code.Memory.{entries_in}
use Rattle.bar_ledger.specs.Code.Naming.{shares_leaf}
use Rattle.bar_exchange.proofs.Passing.{unnamed_among}
use Rattle.bar_exchange.proofs.naming.naming_elsewhere.Goals as goal

pub returns-then-not-names_leaf : goal.returns-then-not-names_leaf
returns-then-not-names_leaf g c fits =
    let l : Ledger = c.args.ledger.now in
    let named : List ℕ → ℕ = g.V.Verifier.leaf_named c.args.verifier.now in
    let len : ℕ = g.V.Verifier.signature_len c.args.verifier.now in
    let low : ℕ = l.round - l.shape.life in
    let none : list_any (shares_leaf named len c.args.leaf c.args.x c.args.party) (entries_in l) ≡ false =
    sym c.names_leaf.ensures ∙ c.if-not-names_leaf.true
    in
    sym (unnamed_among named len c.args.leaf l c.args.x c.args.party none low (shared_from l.me c.args.party low (l.shape.life + 2))
    (shared_are l.me c.args.party low low (l.shape.life + 2) (omega arith)))
