-- Which evictions were announced.
use Rattle.std.specs.Prelude.{ℕ, Bool, false, slice_index_or}
use Rattle.bar_peer.specs.declared.evictions.Evictions.{Evictions}

-- whether the EVICT of a round was admitted
abbrev pub was_heard : Evictions → ℕ → Bool
was_heard e round = slice_index_or e.rounds.items round false

-- whether an admitted EVICT names a party
abbrev pub is_named : Evictions → ℕ → Bool
is_named e party = slice_index_or e.parties.items party false
