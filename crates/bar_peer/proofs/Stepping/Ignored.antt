-- Properties of a datagram that tells nothing, and what is left to be given out if nothing is sent.
use Rattle.std.proofs.Common.{◌≡◌, ◌&&◌, true, false, not, List, [], ◌∷◌, map, None, refl}
use Rattle.std.specs.Prelude.{is_some}
use Rattle.std.proofs.lemmas.Bool.{and_parts, not-true}
use Rattle.bar_wire.specs.Datagram.{Datagram}
use Rattle.bar_rules.specs.Member.{Member}
use Rattle.bar_rules.specs.Peer.Admission.{is_admitted}
use Rattle.bar_rules.specs.Peer.Evidence.{new_evidence}
use Rattle.bar_rules.specs.Peer.Knowledge.{Knowledge}
use Rattle.bar_rules.specs.Peer.Replies.{repeated}
use Rattle.bar_laws.specs.Ignoring.{tells_nothing}
use Rattle.bar_bytes.proofs.Options.{none-of}

-- it isn't admitted, is no repeat, and completes no evidence
pub record TellsNothing (me : Member) (k : Knowledge) (d : Datagram) : Type 0 where
  pub refused : is_admitted me k d ≡ false
  pub unlike : repeated me k d ≡ None
  pub unshown : new_evidence me k d ≡ None

pub nothing-told : (me : Member) (k : Knowledge) (d : Datagram) → tells_nothing me k d ≡ true → TellsNothing me k d
nothing-told me k d e =
    let parts = and_parts (not (is_admitted me k d) && not (is_some (repeated me k d))) (not (is_some (new_evidence me k d))) e in
    let before = and_parts (not (is_admitted me k d)) (not (is_some (repeated me k d))) parts.0 in
    record {
      refused = not-true _ before.0;
      unlike = none-of _ (not-true _ before.1);
      unshown = none-of _ (not-true _ parts.1);
    }

-- a list whose image is empty is empty
pub none_mapped : {A B : Type 0} (f : A → B) (xs : List A) → map f xs ≡ [] → xs ≡ []
none_mapped f [] e = refl
none_mapped f (x ∷ xs) e = absurd (cc)
