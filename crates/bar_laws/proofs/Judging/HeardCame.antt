-- What was heard arrived: each admitted datagram is encoded by one of the inputs.
use Rattle.bar_rules.specs.Peer.Log.{Log}
use Rattle.bar_rules.specs.Member.{Session, Member}
use Rattle.bar_rules.specs.Peer.Run.{step, log_after}
use Rattle.bar_wire.specs.Datagram.{Datagram}
use Rattle.bar_wire.specs.Inputs.{Input}
use Rattle.bar_wire.specs.Inputs as event
use Rattle.std.proofs.Common.{◌≡◌, suc, List, [], ◌∷◌, ◌++◌, inl, inr, refl, subst, arith}
use Rattle.std.specs.Prelude.{Option, Some, ◌⊎◌}
use Rattle.std.specs.List.{AllByRecursion}
use Rattle.bar_laws.specs.Heard.{IsSpelledIn, HeardHasCome}
use Rattle.bar_laws.proofs.Runs.{AddedBy, HeardIn, heard-in, came, step-adds}
use Rattle.bar_laws.proofs.Judging.BadKeys.{heard-was}

heard-new : (me : Member) (log : Log) (o : Option Datagram) (new : Log) (d : Datagram) → AllByRecursion (AddedBy me log o) new → HeardIn (new ++ log) d → (o ≡ Some d) ⊎ HeardIn log d
heard-new me log o [] d a h = inr h
heard-new me log o (x ∷ new) d a (inl e) = inl (subst (λ y. AddedBy me log o y) e a.0)
heard-new me log o (x ∷ new) d a (inr h) = heard-new me log o new d a.1 h

step-heard : (me : Member) (log : Log) (i : Input) (d : Datagram) → HeardIn (step me log i).state d → (came me i ≡ Some d) ⊎ HeardIn log d
step-heard me log i d h = let a = step-adds me log i in heard-new me log (came me i) a.new d a.added (subst (λ l. HeardIn l d) a.split h)

-- what is encoded in some inputs is encoded in more
spelled-more : (s : Session) (i : Input) (is : List Input) (d : Datagram) → IsSpelledIn s is d → IsSpelledIn s (i ∷ is) d
spelled-more s i is d c = record { bytes = c.bytes; came = (suc c.came.0, omega (arith, c.came.1), c.came.2); spells = c.spells }

spelled-here : (me : Member) (i : Input) (is : List Input) (d : Datagram) → came me i ≡ Some d → IsSpelledIn me.session (i ∷ is) d
spelled-here me event.Tick is d e = cc
spelled-here me (event.Datagram b) is d e = record { bytes = b; came = (0, omega arith, refl); spells = e }

run-heard : (me : Member) (log : Log) (inputs : List Input) (d : Datagram) → HeardIn (log_after me log inputs) d → IsSpelledIn me.session inputs d ⊎ HeardIn log d
run-heard me log [] d h = inr h
run-heard me log (i ∷ is) d h = go (run-heard me (step me log i).state is d h)
  where
    pick : (came me i ≡ Some d) ⊎ HeardIn log d → IsSpelledIn me.session (i ∷ is) d ⊎ HeardIn log d
    pick (inl e) = inl (spelled-here me i is d e)
    pick (inr k) = inr k

    go : IsSpelledIn me.session is d ⊎ HeardIn (step me log i).state d → IsSpelledIn me.session (i ∷ is) d ⊎ HeardIn log d
    go (inl c) = inl (spelled-more me.session i is d c)
    go (inr k) = pick (step-heard me log i d k)

pub heard-came : HeardHasCome
heard-came me inputs d h = go (run-heard me [] inputs d (heard-in (log_after me [] inputs) d (heard-was (log_after me [] inputs) d h)))
  where
    go : IsSpelledIn me.session inputs d ⊎ HeardIn [] d → IsSpelledIn me.session inputs d
    go (inl c) = c
    go (inr k) = absurd k
