use Rattle.std.proofs.Common.{refl, sym, subst}
use Rattle.bar_wire.specs.Inputs.{Datagram}
use Rattle.bar_rules.specs.World.World.{Hostile, TickOf}
use Rattle.bar_laws.specs.Parties.{after}
use Rattle.bar_world.specs.Code.Given.{Gives}
use Rattle.bar_world.proofs.Takes.{on-ok}
use Rattle.bar_world.proofs.world.World.happen.Goals as goal

pub returns-in-TickOf-clause-stands : goal.returns-in-TickOf-clause-stands
returns-in-TickOf-clause-stands c =
    rw c.in-TickOf.is
    (on-ok c.take.result
    (λ stands setup moves s. stands setup moves (TickOf c.in-TickOf.party) (record { next = refl; inputs = λ q. refl }) s)
    c.take.ensures.stands)

pub returns-in-Hostile-clause-stands : goal.returns-in-Hostile-clause-stands
returns-in-Hostile-clause-stands c =
    rw c.in-Hostile.is
    (on-ok c.take-in-Hostile.result
    (λ stands setup moves s.
    stands setup moves (Hostile c.in-Hostile.to c.in-Hostile.bytes.items)
    (subst (λ b. Gives setup (after setup moves) (Hostile c.in-Hostile.to c.in-Hostile.bytes.items) c.in-Hostile.to (Datagram b))
    (sym c.deref.ensures.value) (record { next = refl; inputs = λ q. refl }))
    s)
    c.take-in-Hostile.ensures.stands)
