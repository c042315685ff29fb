-- Examples, computed by the definitions: how drawn numbers decide an entry of the queue, and the lie about a key.
use Rattle.bar_window.specs.declared.exchange.Role.TheVariants.{Initiator}
use Rattle.bar_window.specs.declared.exchange.XKind.TheVariants.{Push}
use Rattle.bar_wire.specs.Datagram.{Datagram, Body, Key, KeyReq, KeyGiven}
use Rattle.bar_rules.specs.Member.{Member}
use Rattle.bar_rules.specs.Values.{datagram_bytes}
use Rattle.bar_rules.specs.World.World.{Deliver, member}
use Rattle.bar_world.specs.Network.{Game, Play, moved, other_key, lie_of, lie_in, served}
use Rattle.bar_world.specs.Sim.{setup, secrets, secret_of}
use Rattle.std.proofs.Common.{◌≡◌, ℕ, [], ◌∷◌, ◌+◌, Some, None, refl}

-- a game in which this number is drawn each time
abbrev drawing : Game → ℕ → Game
drawing game number = record game { drawn = λ k. number }

-- the first entry of this queue is removed, and a number is drawn
abbrev queued : Play → Play
queued play = record play { queue = Deliver 3 ∷ Deliver 5 ∷ [] }

abbrev taken : Play → Play
taken play = record play { queue = Deliver 5 ∷ []; draws = play.draws + 1 }

-- 20 ends in 0
lost : (game : Game) (play : Play) → served (drawing game 20) (queued play) ≡ record (taken play) { lost = play.lost + 1 }
lost game play = refl

-- 37 ends in 7
once : (game : Game) (play : Play)
    → served (drawing game 37) (queued play)
    ≡ moved (drawing game 37) (record (taken play) { delivered = play.delivered + 1 }) (Deliver 3)
once game play = refl

-- 41 ends in 1
twice : (game : Game) (play : Play)
    → served (drawing game 41) (queued play)
    ≡ moved (drawing game 41)
    (moved (drawing game 41) (record (taken play) { delivered = play.delivered + 1; repeated = play.repeated + 1 }) (Deliver 3)) (Deliver 3)
twice game play = refl

-- if the queue is empty, nothing is drawn
nothing-waits : (game : Game) (play : Play) → served game (record play { queue = [] }) ≡ record play { queue = [] }
nothing-waits game play = refl

-- ---- lies

even : other_key (0x40 ∷ 7 ∷ []) ≡ 0x41 ∷ 7 ∷ []
even = refl

odd : other_key (0xff ∷ 7 ∷ []) ≡ 0xfe ∷ 7 ∷ []
odd = refl

-- a datagram from a party to party 2, and what is delivered in its place if party 5 lies
abbrev from : ℕ → Body → Datagram
from party body = record { message = record { from = party; to = 2; body = body }; signature = [] }

abbrev fifth : Game → Member
fifth game = member game.setup 5

own-key : (game : Game) (k : KeyGiven)
    → lie_in (fifth game) (Some (from 5 (Key k)))
    ≡ Some (datagram_bytes game.setup.session (lie_of (fifth game) (from 5 (Key k)) k))
own-key game k = refl

other-sender : (game : Game) (k : KeyGiven) → lie_in (fifth game) (Some (from 4 (Key k))) ≡ None
other-sender game k = refl

other-kind : (game : Game) (round : ℕ) → lie_in (fifth game) (Some (from 5 (KeyReq round Push Initiator))) ≡ None
other-kind game round = refl

-- ---- the setup

signature-bytes : (seed : ℕ) → (setup seed).session.shape.sig_len ≡ 2508
signature-bytes seed = refl

six : (seed : ℕ)
    → secrets seed
    ≡ secret_of seed 0 ∷ secret_of seed 1 ∷ secret_of seed 2 ∷ secret_of seed 3 ∷ secret_of seed 4 ∷ secret_of seed 5 ∷ []
six seed = refl
