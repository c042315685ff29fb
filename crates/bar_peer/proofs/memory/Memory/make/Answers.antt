-- The memory of a peer before any input represents the empty knowledge.
use Rattle.std.proofs.Common.{◌∙◌, refl, sym}
use Rattle.bar_wire.specs.Grammar.{is_wide}
use Rattle.bar_peer.specs.Code.Memory.{member_of}
use Rattle.bar_peer.proofs.memory.Memory.make.Goals as goal

pub returns-clause-stands : goal.returns-clause-stands
returns-clause-stands c =
    let me = member_of c.args.who in
    let shape = c.shape-shape.ensures.value in
    let store = c.in_ok-store.ensures in
    let ledger = c.in_ok-ledger.ensures in
    record {
      time = refl;
      store =
          store.starts me ((λ i. (store.table i).rounds) ∙ (λ i. (shape i).rounds)) ((λ i. (store.table i).per_round) ∙ (λ i. (shape i).per_round))
          (store.numbers.0 ∙ (λ i. (shape i).life))
          (store.numbers.2 ∙ c.is_wide.ensures ∙ (λ i. is_wide (shape i)));
      ledger = ledger.starts me ledger.numbers.0 (ledger.numbers.1 ∙ c.cap.ensures) (ledger.numbers.2 ∙ shape);
      manifests = λ round. sym (c.in_ok-manifests.ensures.empty round);
      evictions = λ round. sym (c.in_ok-evictions.ensures.rounds round);
      announced = λ party. sym (c.in_ok-evictions.ensures.parties party);
      evidence = λ party. sym (c.in_ok-evidence.ensures.empty party);
    }
