-- The part of a peer's knowledge that a store holds: the lists of the manifests, and the blocks of the updates that may still be asked
-- about.
use Rattle.std.specs.Prelude.{◌≡◌, ℕ}
use Rattle.bar_window.specs.declared.update.UpdateId.{UpdateId}
use Rattle.bar_terms.specs.Table.{digests_of}
use Rattle.bar_wire.specs.Grammar.{is_wide}
use Rattle.bar_rules.specs.Member.{Member}
use Rattle.bar_rules.specs.Peer.Knowledge.{Knowledge, table_of, this_round}
use Rattle.bar_rules.specs.Peer.Agreement.{IsFresh}
use Rattle.bar_store.specs.declared.store.Store.{Store}
use Rattle.bar_store.specs.Code.Held.{block_in}

pub record Holds (me : Member) (k : Knowledge) (s : Store) : Type 0 where
  pub rounds : s.table.rounds ≡ me.session.shape.rounds
  pub per_round : s.table.per_round ≡ me.session.shape.per_round
  pub life : s.life ≡ me.session.shape.life
  pub wide : s.wide ≡ is_wide me.session.shape
  pub round : s.round ≡ this_round k
  pub table : (round : ℕ) → table_of k round ≡ digests_of s.table.lists round
  pub blocks : (u : UpdateId) → IsFresh me k u.round → k.block u ≡ block_in s u
