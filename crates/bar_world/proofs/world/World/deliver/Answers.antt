use Rattle.std.proofs.Common.{◌≡◌, ◌≤◌, ◌∙◌, length, refl, sym, subst}
use Rattle.std.specs.Prelude.{Some, slice_get}
use Rattle.std.proofs.lemmas.List.Elements.{same_from_all_zip}
use Rattle.std.proofs.lemmas.Option.{slice_get_read}
use Rattle.bar_wire.specs.Inputs.{Datagram}
use Rattle.bar_rules.specs.World.World.{Deliver}
use Rattle.bar_laws.specs.Parties.{after}
use Rattle.bar_world.specs.Code.Given.{Gives}
use Rattle.bar_world.proofs.Idle.{delivered-gives, past-pool}
use Rattle.bar_world.proofs.Takes.{on-ok}
use Rattle.bar_world.proofs.world.World.deliver.Goals as goal

pub returns-in_default-clause-stands : goal.returns-in_default-clause-stands
returns-in_default-clause-stands c = λ setup moves s.
    past-pool setup moves c.args.number c.args.self.now
    (subst (λ pool. length pool ≤ c.args.number) c.deref.ensures.value c.in_default.ensures.lookup.3)
    s

pub returns-clause-stands : goal.returns-clause-stands
returns-clause-stands c =
    let bytes : c.in_ok-bytes.bytes.items ≡ c.in-Some.packet.now.bytes.items =
    same_from_all_zip _ _ _ c.in_ok-bytes.ensures.cases.0 (λ x y is. is)
    in
    let here : slice_get c.args.self.now.pool.items c.args.number ≡ Some c.in-Some.packet.now =
    subst (λ pool. slice_get pool c.args.number ≡ Some c.in-Some.packet.now) c.deref.ensures.value
    (slice_get_read _ _ c.args.number _ refl c.in-Some.ensures.lookup.3.0 c.in-Some.ensures.lookup.1)
    in
    on-ok c.take.result
    (λ stands setup moves s.
    stands setup moves (Deliver c.args.number)
    (subst (λ b. Gives setup (after setup moves) (Deliver c.args.number) c.in-Some.packet.now.to (Datagram b))
    (sym (c.deref-2.ensures.value ∙ bytes)) (delivered-gives setup moves c.args.number c.args.self.now c.in-Some.packet.now here s))
    s)
    c.take.ensures.stands
