-- The windows of a store are those that the rules compute from the knowledge that it holds, for each round that may be asked about.
use Rattle.std.specs.Prelude.{◌≡◌, ℕ, ◌+◌, ◌-◌, ◌/◌, ◌≤◌, List, take}
use Rattle.bar_window.specs.declared.update.UpdateId.{UpdateId}
use Rattle.bar_rules.specs.Member.{Member}
use Rattle.bar_rules.specs.Peer.Choices.{young_of, aged_of}
use Rattle.bar_rules.specs.Peer.Holdings.{history}
use Rattle.bar_rules.specs.Peer.Knowledge.{Knowledge, this_round, answer_deadline}
use Rattle.bar_store.specs.declared.store.Store.{Store}
use Rattle.bar_store.specs.Code.Holds.{Holds}

-- the history of the round
abbrev pub IsHistory : Store → ℕ → List UpdateId → Type 0
IsHistory s round us =
    (me : Member) (k : Knowledge) → Holds me k s → this_round k ≤ round + answer_deadline → us ≡ history me.session k.block round

-- the first `cap` of the updates are those that a push of the round offers
abbrev pub IsYoung : Store → ℕ → List UpdateId → Type 0
IsYoung s round us =
    (me : Member) (k : Knowledge) → Holds me k s → this_round k ≤ round + answer_deadline → take me.session.cap us ≡ young_of me k round

-- the first `cap` of the updates are those that a push of the round asks for
abbrev pub IsAged : Store → ℕ → ℕ → List UpdateId → Type 0
IsAged s round last us =
    (me : Member) (k : Knowledge) → Holds me k s → this_round k ≤ round + answer_deadline → last ≡ round - me.session.shape.life / 2
    → take me.session.cap us ≡ aged_of me k round
