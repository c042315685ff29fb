-- Laws of the judge's verdicts.
use Rattle.std.specs.Prelude.{◌≡◌, ◌==◌, ℕ, true, false, List}
use Rattle.std.specs.Bool.{then_some}
use Rattle.bar_rules.specs.Values.{leaf_named}
use Rattle.bar_wire.specs.Bodies.{is_peer_kind}
use Rattle.bar_wire.specs.Datagram.{Datagram}
use Rattle.bar_terms.specs.Table.{Table, Extends}
use Rattle.bar_rules.specs.Member.{Session}
use Rattle.bar_rules.specs.Judge.Verdict.{Fault, LeafTwice, Shown, verdict, fault_of_two, same_place}

-- What is shown under a table is shown under each table that extends it: the same fault of the same party.
abbrev pub ShownStaysShown : Type 0
ShownStaysShown =
    (s : Session) (old new : Table) (evidence : List (List ℕ)) (party : ℕ) (fault : Fault) → Extends old new
    → verdict s old evidence ≡ Shown party fault → verdict s new evidence ≡ Shown party fault

-- If a peer signed two datagrams for one receiver, in two exchanges, they show nothing but that their signatures name one leaf.
abbrev pub ExchangesShareLeavesAlone : Type 0
ExchangesShareLeavesAlone =
    (s : Session) (table : Table) (d e : Datagram) → is_peer_kind d.message.body ≡ true → is_peer_kind e.message.body ≡ true
    → d.message.from ≡ e.message.from → d.message.to ≡ e.message.to → same_place d.message e.message ≡ false
    → fault_of_two s table d e ≡ then_some (leaf_named s d == leaf_named s e) LeafTwice
