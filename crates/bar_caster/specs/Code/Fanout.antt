-- The ranks of the peers for an update, and how many precede one of them.
use Rattle.std.specs.Prelude.{◌≡◌, ℕ, List, length, map, filter}
use Rattle.std.specs.List.{range_with_len}
use Rattle.bar_window.specs.declared.update.UpdateId.{UpdateId}
use Rattle.bar_rules.specs.Member.{Member}
use Rattle.bar_rules.specs.Broadcaster.Stream.{peers_of, rank_of, ranks_before}

-- the member has this secret, and its session has this id
abbrev pub HasSecret : Member → List ℕ → List ℕ → Type 0
HasSecret me id secret = (me.session.shape.id ≡ id) × (me.secret ≡ secret)

-- these are the ranks of the session's peers for an update, starting with peer 1
abbrev pub AreRanksOf : Member → UpdateId → List (List ℕ) → Type 0
AreRanksOf me u ranks = ranks ≡ map (rank_of me u) (peers_of me.session)

-- the same for each member that has this secret, in a session with this id and as many peers as there are ranks
abbrev pub AreRanksBy : List ℕ → List ℕ → UpdateId → List (List ℕ) → Type 0
AreRanksBy id secret u ranks = (me : Member) → HasSecret me id secret → me.session.shape.peers ≡ length ranks → AreRanksOf me u ranks

-- how many of the peers 1 to `many` precede a peer
abbrev pub count_before : Member → UpdateId → ℕ → ℕ → ℕ
count_before me u many p = length (filter (λ q. ranks_before me u q p) (range_with_len 1 many))
