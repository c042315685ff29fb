-- A summary prints, and does nothing else.
use Rattle.std.proofs.Common.{◌≡◌, ℕ, zero, suc, Bool, true, false, cond, List, [], ◌++◌, Option, None, Some, take, refl, ap, ◌∙◌}
use Rattle.bar_wire.specs.Inputs.{Input}
use Rattle.bar_outside.specs.Wire.{Arrival}
use Rattle.bar_outside.specs.Plan.{Action, Outside}
use Rattle.bar_findings.proofs.Lists.{all-range}
use Rattle.bar_core.specs.Rules.{Rules}
use Rattle.bar_node.specs.Runs.{is_ended, taken_of}
use Rattle.bar_party_commands.specs.Stands.{IsFrontPrinted}
use Rattle.bar_party_commands.specs.Summaries.{at_end, caster_summary, evicted_word, evidence_word, peer_summary, shown_if, shown_parties}
use Rattle.bar_node.proofs.ActionKinds.{AreAmong, IsAmong, NoCall, NoName}

-- each action prints
abbrev pub ArePrints : List Action → Type 0
ArePrints acts = AreAmong NoName NoCall (Unit {0}) acts

prints-if : (word : List ℕ) (party : ℕ) (evidence : Option (List ℕ)) → ArePrints (shown_if word party evidence)
prints-if word party None = tt
prints-if word party (Some bytes) = (tt, tt)

prints-parties : (word : List ℕ) (evidence : ℕ → Option (List ℕ)) (peers : ℕ) → ArePrints (shown_parties word evidence peers)
prints-parties word evidence peers =
    all-range (IsAmong NoName NoCall (Unit {0})) (λ party. shown_if word party (evidence party)) 1 peers
    (λ party low high. prints-if word party (evidence party))

pub peer-prints : (r : Rules) (taken : List Input) → ArePrints (peer_summary r taken)
peer-prints r taken = (tt, prints-parties evidence_word (r.evidence taken) r.peers)

pub caster-prints : (r : Rules) (taken : List Input) → ArePrints (caster_summary r taken)
caster-prints r taken = (tt, prints-parties evicted_word (r.evidence taken) r.peers)

pub end-prints : (summary : Rules → List Input → List Action) → ((r : Rules) (taken : List Input) → ArePrints (summary r taken)) →
    (r : Rules) (given : List Arrival) → ArePrints (at_end summary r given)
end-prints summary prints r given = by_test (is_ended r given)
  where
    by_test : (b : Bool) → ArePrints (cond b (summary r (taken_of r given)) [])
    by_test true = prints r (taken_of r given)
    by_test false = tt

take-none : (k : ℕ) → ◌≡◌ {A = List ℕ} (take k []) []
take-none zero = refl
take-none (suc k) = refl

-- a prefix of what is printed at the end is a prefix of the summary
pub front-at_end : (summary : Rules → List Input → List Action) (r : Rules) (given : List Arrival) (old new : Outside) →
    IsFrontPrinted (at_end summary r given) old new → IsFrontPrinted (summary r (taken_of r given)) old new
front-at_end summary r given old new front = by_test (is_ended r given) front
  where
    by_test : (b : Bool) → IsFrontPrinted (cond b (summary r (taken_of r given)) []) old new →
        IsFrontPrinted (summary r (taken_of r given)) old new
    by_test true front = front
    by_test false front = let n = front in (0, n.1 ∙ ap (λ bytes. old.out.bytes ++ bytes) (take-none n.0))
