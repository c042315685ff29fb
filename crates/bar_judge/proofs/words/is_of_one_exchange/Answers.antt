use Rattle.std.proofs.Common.{◌≡◌, ◌∙◌, Some, None, sym, ap, option_map, rules}
use Rattle.bar_window.specs.Exchange.{same_exchange}
use Rattle.bar_wire.specs.Code.Sides.{place_in}
use Rattle.bar_wire.specs.Code.Views.{datagram}
use Rattle.bar_judge.proofs.Messages.{place_told}
use Rattle.bar_judge.proofs.words.is_of_one_exchange.Goals as goal

pub returns-in-Some-Some : goal.returns-in-Some-Some
returns-in-Some-Some c s =
    let same : c.eq.result ≡ same_exchange c.in-Some-Some.one.x c.in-Some-Some.two.x = search rules in
    same
    ∙ sym (place_told (datagram s c.args.m.now).message (datagram s c.args.n.now).message (Some c.in-Some-Some.one) (Some c.in-Some-Some.two)
    (ap (option_map place_in) (sym c.in-Some-Some.is-0) ∙ c.place_of.ensures s) (ap (option_map place_in) (sym c.in-Some-Some.is-1) ∙ c.place_of-2.ensures s))

pub returns-in_default : goal.returns-in_default
returns-in_default c s =
    sym (place_told (datagram s c.args.m.now).message (datagram s c.args.n.now).message (Some c.in_default.field-0-0) None
    (ap (option_map place_in) (sym c.in_default.is-0) ∙ c.place_of.ensures s) (ap (option_map place_in) (sym c.in_default.is-1) ∙ c.place_of-2.ensures s))

pub returns-in_default-2 : goal.returns-in_default-2
returns-in_default-2 c s =
    sym (place_told (datagram s c.args.m.now).message (datagram s c.args.n.now).message None c.place_of-2.result
    (ap (option_map place_in) (sym c.in_default.is-0) ∙ c.place_of.ensures s) (c.place_of-2.ensures s))
