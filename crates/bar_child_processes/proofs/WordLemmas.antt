-- The arguments of a peer.
use Rattle.std.proofs.Common.{◌≡◌, ◌<◌, ℕ, zero, suc, codes, refl, arith}
use Rattle.bar_child_processes.specs.Names.{SessionNames}
use Rattle.bar_child_processes.specs.Words.{peer_options, with_options, words_of}

-- a party above 0 is a peer
pub words-peer : (names : SessionNames) (party : ℕ) → 0 < party →
    words_of names party ≡ with_options names.program (codes "peer") (peer_options names party)
words-peer names zero above = absurd (omega (arith, above))
words-peer names (suc p) above = refl
