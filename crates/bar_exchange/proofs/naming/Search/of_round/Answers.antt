use Rattle.std.proofs.Common.{◌∙◌, ℕ, Bool, List, sym, ap}
use Rattle.std.specs.Option.{option_or}
use Rattle.bar_window.specs.declared.exchange.XKind.{XKind}
use Rattle.bar_window.specs.declared.exchange.XKind.TheVariants.{Balanced, Push}
use Rattle.bar_window.specs.declared.exchange.Exchange.{Exchange}
use Rattle.bar_rules.specs.Peer.Evidence.{between}
use Rattle.bar_ledger.specs.Code.Naming.{names}
use Rattle.bar_exchange.specs.Code.Naming.{passing_among}
use Rattle.bar_exchange.proofs.Passing.{passing_both}
use Rattle.bar_exchange.proofs.naming.Search.of_round.Goals as goal

pub returns-in-Some : goal.returns-in-Some
returns-in-Some g c =
    let test : List ℕ → Bool = names (g.V.Verifier.leaf_named c.args.self.now.verifier.now) (g.V.Verifier.signature_len c.args.self.now.verifier.now) c.args.self.now.leaf in
    let of_kind : XKind → List Exchange = between c.args.self.now.ledger.now.me c.args.self.now.party c.args.round in
    ap (λ o. option_or o (passing_among test c.args.self.now.ledger.now c.args.self.now.x (of_kind Push))) c.in-Some.ensures
    ∙ sym (passing_both test c.args.self.now.ledger.now c.args.self.now.x (of_kind Balanced) (of_kind Push))

pub returns-in-None : goal.returns-in-None
returns-in-None g c =
    let test : List ℕ → Bool = names (g.V.Verifier.leaf_named c.args.self.now.verifier.now) (g.V.Verifier.signature_len c.args.self.now.verifier.now) c.args.self.now.leaf in
    let of_kind : XKind → List Exchange = between c.args.self.now.ledger.now.me c.args.self.now.party c.args.round in
    c.of_round_and_kind-in-None.ensures
    ∙ ap (λ o. option_or o (passing_among test c.args.self.now.ledger.now c.args.self.now.x (of_kind Push))) c.in-None.ensures
    ∙ sym (passing_both test c.args.self.now.ledger.now c.args.self.now.x (of_kind Balanced) (of_kind Push))
