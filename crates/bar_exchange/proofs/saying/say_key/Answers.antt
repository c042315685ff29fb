use Rattle.std.proofs.Common.{None, refl, sym, ◌∙◌}
use Rattle.std.proofs.lemmas.Bool.{false≢true}
use Rattle.bar_rules.specs.Peer.Exchanges.{role_of}
use Rattle.bar_wire.specs.declared.kind.Kind.TheVariants as kinds
use Rattle.bar_exchange.proofs.Marks.{found_by, one_found, kept_found, one_none, some_found, first_by_case, key_recalls}
use Rattle.bar_exchange.proofs.saying.say_key.Goals as goal

pub returns-in_default-clause-learns : goal.returns-in_default-clause-learns
returns-in_default-clause-learns c me k d h s said =
    let none = one_none me k c.args.ledger.now c.args.x h s.recent (some_found None _ c.in_default.ensures.entry) in
    absurd (false≢true (sym (none.said kinds.Case (role_of me c.args.x)) ∙ said))

pub returns-clause-learns : goal.returns-clause-learns
returns-clause-learns c me k d h s said =
    let found = found_by c.args.ledger.now c.args.x c.in-Some.entry.now c.in-Some.ensures.entry in
    let one = one_found me k c.args.ledger.now c.args.x c.in-Some.entry.now h s.recent found in
    let own = kept_found me k c.args.ledger.now c.args.x c.in-Some.entry.now h found in (
      refl,
      key_recalls me k d c.args.x c.args.ledger.now c.set.new.self c.in-Some.entry.now h s found (first_by_case me k c.args.x _ one own said)
          (record { found = c.set.ensures.found; asked = c.set.ensures.asked; opens = c.set.ensures.opens; same = c.set.ensures.same }),
    )
