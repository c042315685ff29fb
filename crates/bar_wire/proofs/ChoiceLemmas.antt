-- The round of the seed in a datagram.
use Rattle.std.proofs.Common.{◌≡◌, Some, ap, arith}
use Rattle.std.proofs.lemmas.Option.{same_Some}
use Rattle.bar_wire.specs.Bodies.{Choice, choice_in, choice_round}
use Rattle.bar_wire.specs.Datagram.{Body, Manifest, Block, Request, Response, Divulge, Query, Reply, Case, KeyReq, Key, Evidence, Evict}

pub choice_rounds : (b : Body) (a : Choice) → Some a ≡ choice_in b → choice_round b ≡ a.round
choice_rounds (Request r s c) a is = omega (arith, ap (λ (x : Choice). x.round) (same_Some a _ is))
choice_rounds (Query r s y o) a is = omega (arith, ap (λ (x : Choice). x.round) (same_Some a _ is))
choice_rounds (Manifest r ds) a is = absurd cc
choice_rounds (Block u b) a is = absurd cc
choice_rounds (Response r h) a is = absurd cc
choice_rounds (Divulge r n h) a is = absurd cc
choice_rounds (Reply r w g z) a is = absurd cc
choice_rounds (Case c) a is = absurd cc
choice_rounds (KeyReq r k o) a is = absurd cc
choice_rounds (Key k) a is = absurd cc
choice_rounds (Evidence ds) a is = absurd cc
choice_rounds (Evict r ps) a is = absurd cc
