-- Plays with one more step at the end.
use Rattle.bar_rules.specs.World.World.{TickOf}
use Rattle.bar_world.specs.Network.{Game, Play, moved, served, drained, ticked, tick_played, played_on}
use Rattle.bar_world.specs.Code.Playing.{HasWords, HasCounts, SameCounts}
use Rattle.rand_chacha.specs.ChaCha.{ChaCha}
use Rattle.bar_world.specs.declared.network.Network.{Network}
use Rattle.std.specs.List.{range_with_len}
use Rattle.std.proofs.Common.{◌≡◌, ℕ, zero, suc, ◌+◌, ◌^◌, ◌<◌, ◌≤◌, refl, sym, ap, ◌∙◌, subst, arith}

drained-suc : (game : Game) (n : ℕ) (play : Play) → drained game (suc n) play ≡ served game (drained game n play)
unfolding drained
drained-suc game zero play = refl
drained-suc game (suc n) play = drained-suc game n (served game play)

pub drained-more : (game : Game) (n : ℕ) (play : Play) → drained game (n + 1) play ≡ served game (drained game n play)
drained-more game n play = let e : n + 1 ≡ suc n = omega arith in ap (λ k. drained game k play) e ∙ drained-suc game n play

pub drained-none : (game : Game) (play : Play) → drained game 0 play ≡ play
unfolding drained
drained-none game play = refl

pub ticked-none : (game : Game) (play : Play) → ticked game (range_with_len 0 0) play ≡ play
unfolding ticked
ticked-none game play = refl

ticked-last : (game : Game) (a n : ℕ) (play : Play)
    → ticked game (range_with_len a (suc n)) play ≡ moved game (ticked game (range_with_len a n) play) (TickOf (a + n))
unfolding ticked
ticked-last game a zero play = let e : a ≡ a + 0 = omega arith in ap (λ k. moved game play (TickOf k)) e
ticked-last game a (suc n) play =
    let e : a + 1 + n ≡ a + suc n = omega arith in
    ticked-last game (a + 1) n (moved game play (TickOf a))
    ∙ ap (λ k. moved game (ticked game (range_with_len (a + 1) n) (moved game play (TickOf a))) (TickOf k)) e

pub ticked-more : (game : Game) (n : ℕ) (play : Play)
    → ticked game (range_with_len 0 (n + 1)) play ≡ moved game (ticked game (range_with_len 0 n) play) (TickOf n)
ticked-more game n play =
    let e : n + 1 ≡ suc n = omega arith in
    let f : 0 + n ≡ n = omega arith in
    ap (λ k. ticked game (range_with_len 0 k) play) e
    ∙ ticked-last game 0 n play
    ∙ ap (λ k. moved game (ticked game (range_with_len 0 n) play) (TickOf k)) f

played-suc : (game : Game) (most n : ℕ) (play : Play)
    → played_on game most (suc n) play ≡ tick_played game most (played_on game most n play)
unfolding played_on
played-suc game most zero play = refl
played-suc game most (suc n) play = played-suc game most n (tick_played game most play)

pub played-more : (game : Game) (most n : ℕ) (play : Play)
    → played_on game most (n + 1) play ≡ tick_played game most (played_on game most n play)
played-more game most n play =
    let e : n + 1 ≡ suc n = omega arith in
    ap (λ k. played_on game most k play) e ∙ played-suc game most n play

pub played-none : (game : Game) (most : ℕ) (play : Play) → played_on game most 0 play ≡ play
unfolding played_on
played-none game most play = refl

-- ---- room

pub fewer-counts : (net : Network) (a b : ℕ) → b ≤ a → HasCounts a net → HasCounts b net
fewer-counts net a b low h = record {
  delivered = omega (arith, low, h.delivered);
  lost = omega (arith, low, h.lost);
  repeated = omega (arith, low, h.repeated);
}

pub counts-stay : (old new : Network) (n : ℕ) → SameCounts old new → HasCounts n old → HasCounts n new
counts-stay old new n same h = record {
  delivered = subst (λ z. z + n < 2 ^ 64) (sym same.delivered) h.delivered;
  lost = subst (λ z. z + n < 2 ^ 64) (sym same.lost) h.lost;
  repeated = subst (λ z. z + n < 2 ^ 64) (sym same.repeated) h.repeated;
}

pub words-stay : (old new : Network) (n : ℕ) → SameCounts old new → HasWords n old → HasWords n new
words-stay old new n same h = subst (λ z. z + n < 2 ^ 68) (sym (ap (λ (w : ChaCha). w.word_pos) same.words)) h
