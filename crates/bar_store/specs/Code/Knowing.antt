-- How the calls of a store change the knowledge that it holds.
use Rattle.std.specs.Prelude.{◌≡◌, ℕ, Bool, List, None}
use Rattle.bar_window.specs.declared.update.UpdateId.{UpdateId}
use Rattle.bar_wire.specs.Datagram.{Datagram, Manifest, Block}
use Rattle.bar_wire.specs.Grammar.{is_wide}
use Rattle.bar_rules.specs.Member.{Member}
use Rattle.bar_rules.specs.Peer.Admission.{is_row_met}
use Rattle.bar_rules.specs.Peer.Knowledge.{Knowledge, nothing, this_round, with_tick, with_heard}
use Rattle.bar_store.specs.declared.store.Store.{Store}
use Rattle.bar_store.specs.Code.Holds.{Holds}

-- the store holds the empty knowledge, of each member whose session has these parameters
abbrev pub StartsFrom : Store → Type 0
StartsFrom s =
    (me : Member) → s.table.rounds ≡ me.session.shape.rounds → s.table.per_round ≡ me.session.shape.per_round
    → s.life ≡ me.session.shape.life → s.wide ≡ is_wide me.session.shape → Holds me nothing s

-- a block is new if and only if it is admitted, whoever sends it
abbrev pub MeetsRow : UpdateId → List ℕ → Store → Bool → Type 0
MeetsRow id block s is_new = (me : Member) (k : Knowledge) (from to : ℕ) → Holds me k s → is_new ≡ is_row_met me k from to (Block id block)

-- the new store holds the knowledge after this manifest was heard, of a round that had none
abbrev pub LearnsManifest : ℕ → List (List ℕ) → Store → Store → Type 0
LearnsManifest round list old new =
    (me : Member) (k : Knowledge) (d : Datagram) → Holds me k old → k.manifest round ≡ None → d.message.body ≡ Manifest round list
    → Holds me (with_heard me d k) new

-- the new store holds the knowledge after this block was heard
abbrev pub LearnsBlock : UpdateId → List ℕ → Store → Store → Type 0
LearnsBlock id block old new =
    (me : Member) (k : Knowledge) (d : Datagram) → Holds me k old → d.message.body ≡ Block id block → Holds me (with_heard me d k) new

-- What is forgotten can't be asked about any more: the store holds the knowledge after the tick that leads to this round.
abbrev pub GivesUp : ℕ → Store → Store → Type 0
GivesUp now old new = (me : Member) (k : Knowledge) → Holds me k old → now ≡ this_round (with_tick me k) → Holds me (with_tick me k) new
