-- Partners are other peers.
use Rattle.std.proofs.Common.{ℕ, ◌+◌, ◌-◌, ◌%◌, ◌<◌, ◌≤◌, ◌≢◌, List, arith}
use Rattle.std.proofs.lemmas.Bool.Decides.{nat_tests}
use Rattle.bar_window.specs.declared.exchange.XKind.{XKind}
use Rattle.bar_seeds.specs.Partners.{number_of, peer_but, partner_of}

pub peer_but_low : (me place : ℕ) → 1 ≤ peer_but me place
peer_but_low me place = grind (arith, nat_tests)

pub peer_but_high : (peers me place : ℕ) → place + 1 < peers → peer_but me place ≤ peers
peer_but_high peers me place below = grind (arith, nat_tests)

pub peer_but_other : (me place : ℕ) → peer_but me place ≢ me
peer_but_other me place = grind (arith, nat_tests)

pub partner_low : (id : List ℕ) (peers : ℕ) (seed : List ℕ) (kind : XKind) (me : ℕ) → 1 ≤ partner_of id peers seed kind me
unfolding partner_of
partner_low id peers seed kind me = peer_but_low me (number_of id seed kind % (peers - 1))

pub partner_high : (id : List ℕ) (peers : ℕ) (seed : List ℕ) (kind : XKind) (me : ℕ) → 2 ≤ peers → partner_of id peers seed kind me ≤ peers
unfolding partner_of
partner_high id peers seed kind me some =
    let below : number_of id seed kind % (peers - 1) + 1 < peers = omega arith in
    peer_but_high peers me (number_of id seed kind % (peers - 1)) below

pub partner_other : (id : List ℕ) (peers : ℕ) (seed : List ℕ) (kind : XKind) (me : ℕ) → partner_of id peers seed kind me ≢ me
unfolding partner_of
partner_other id peers seed kind me = peer_but_other me (number_of id seed kind % (peers - 1))
