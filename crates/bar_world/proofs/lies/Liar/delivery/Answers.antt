use Rattle.std.proofs.Common.{ap, sym, ◌∙◌, Some, None}
use Rattle.std.specs.Prelude.{option_map}
use Rattle.bar_world.proofs.Leaves.{told-delivery}
use Rattle.bar_world.proofs.lies.Liar.delivery.Goals as goal

pub returns-in-Some : goal.returns-in-Some
returns-in-Some c = λ me is all.
    told-delivery me c.args.self.now.shape c.args.packet.now.bytes.items c.deref.result.now c.in-Ok.view c.args.number
    c.args.packet.now.to (Some c.in-Some.bytes.items) is.shape_is is.single_is c.deref.ensures.value c.in-Ok.ensures.told all
    (λ leaf. ap (λ o. option_map (λ bytes. bytes.items) o) (sym c.in-Some.is) ∙ c.in_ok-bytes.ensures me is leaf)

pub returns-in-None : goal.returns-in-None
returns-in-None c = λ me is all.
    told-delivery me c.args.self.now.shape c.args.packet.now.bytes.items c.deref.result.now c.in-Ok.view c.args.number
    c.args.packet.now.to None is.shape_is is.single_is c.deref.ensures.value c.in-Ok.ensures.told all
    (λ leaf. ap (λ o. option_map (λ bytes. bytes.items) o) (sym c.in-None.is) ∙ c.in_ok-bytes.ensures me is leaf)
