-- The beginning and the end of a simulation.
use Rattle.rand_chacha.specs.ChaCha.{word_at, key_of}
use Rattle.bar_rules.specs.Broadcaster.Sending.{evicted}
use Rattle.bar_rules.specs.Broadcaster.Stream.{peers_of}
use Rattle.bar_rules.specs.Peer.Log.{Log, kept}
use Rattle.bar_rules.specs.World.World.{member}
use Rattle.bar_rules.specs.World.World as plain
use Rattle.bar_laws.specs.OwnRuns.{BroadcasterRuns}
use Rattle.bar_laws.specs.Parties.{IsCastersLog, after}
use Rattle.bar_world.specs.declared.network.Network.{Network}
use Rattle.bar_world.specs.Ends.{caster_log, sim_end}
use Rattle.bar_world.specs.Code.Kept.{StandsFor}
use Rattle.bar_world.specs.Lies.{IsLiar}
use Rattle.bar_world.specs.Network.{begun, played_on}
use Rattle.bar_world.specs.Code.Playing.{IsPlaying, queue_of}
use Rattle.bar_world.specs.Sim.{draw, game, setup, sim, source}
use Rattle.std.proofs.Common.{◌≡◌, ℕ, Bool, List, [], ◌∷◌, ◌+◌, ◌≤◌, length, refl, sym, ap, ◌∙◌, subst, arith}
use Rattle.std.specs.Prelude.{slice_get, unwrap_or, is_some, filter, count_by}
use Rattle.std.proofs.lemmas.List.Sums.{length-filter, count_by-le-length}

-- ---- the beginning

draw-is : (seed number : ℕ) → draw seed number ≡ word_at 10 (key_of (source seed)) 0 (20440 + number)
unfolding draw
draw-is seed number = refl

pub begun-playing : (seed : ℕ) (net : Network) → StandsFor (setup seed) [] net.world → IsLiar (member (setup seed) 5) net.liar
    → net.queue.items ≡ [] → net.words.key ≡ key_of (source seed) → net.words.stream ≡ 0 → net.words.word_pos ≡ 20440
    → net.delivered ≡ 0 → net.lost ≡ 0 → net.repeated ≡ 0 → IsPlaying (game seed) (begun (game seed)) net
begun-playing seed net world liar queue key stream place delivered lost repeated = record {
  liar_is = liar;
  world = world;
  run_is = refl;
  queue = ap queue_of queue;
  drawn = λ k.
      let e : 0 + k ≡ k = omega arith in
      ap (draw seed) e
      ∙ draw-is seed k
      ∙ ap (λ z. word_at 10 z 0 (20440 + k)) (sym key)
      ∙ ap (λ z. word_at 10 net.words.key z (20440 + k)) (sym stream)
      ∙ ap (λ z. word_at 10 net.words.key net.words.stream (z + k)) (sym place);
  delivered = delivered;
  lost = lost;
  repeated = repeated;
}

pub sim-is : (seed : ℕ) → played_on (game seed) 4096 120 (begun (game seed)) ≡ sim seed
unfolding sim
sim-is seed = refl

-- ---- the end

pub end-played : (seed a b c d e : ℕ) → a ≡ length (unwrap_or (slice_get (sim seed).world.played 1) [])
    → b ≡ length (unwrap_or (slice_get (sim seed).world.played 2) []) → c ≡ length (unwrap_or (slice_get (sim seed).world.played 3) [])
    → d ≡ length (unwrap_or (slice_get (sim seed).world.played 4) []) → e ≡ length (unwrap_or (slice_get (sim seed).world.played 5) [])
    → a ∷ b ∷ c ∷ d ∷ e ∷ [] ≡ (sim_end seed).played
unfolding sim_end
end-played seed a b c d e p q r s t = cc

pub end-counts : (seed : ℕ)
    → ((sim seed).delivered ≡ (sim_end seed).delivered) × ((sim seed).lost ≡ (sim_end seed).lost)
    × ((sim seed).repeated ≡ (sim_end seed).repeated)
unfolding sim_end
end-counts seed = (refl, refl, refl)

end-evicted : (seed : ℕ) → evicted (setup seed).session (caster_log (sim seed).world) ≡ (sim_end seed).evicted
unfolding sim_end
end-evicted seed = refl

filter-short : (p : ℕ → Bool) (xs : List ℕ) → length (filter p xs) ≤ length xs
filter-short p xs =
    let e : length (filter p xs) ≡ count_by p xs = length-filter p xs in
    let f : count_by p xs ≤ length xs = count_by-le-length p xs in
    omega (arith, e, f)

pub who-was-evicted : (seed : ℕ) (net : Network) (parties : List ℕ) → BroadcasterRuns → IsPlaying (game seed) (sim seed) net
    → ((log : Log) → IsCastersLog (after (setup seed) (sim seed).moves) log → parties ≡ evicted (setup seed).session log)
    → (parties ≡ (sim_end seed).evicted) × (length parties ≤ 5)
who-was-evicted seed net parties runs is told =
    let w : plain.World = (sim seed).world in
    let at : (log : Log) × IsCastersLog w log =
    (_, ap (λ (w : plain.World). slice_get w.logs 0) is.run_is ∙ (runs (setup seed) (sim seed).moves is.world.setup_is).log)
    in
    let told_so : parties ≡ evicted (setup seed).session at.0 =
    told at.0 (ap (λ (w : plain.World). slice_get w.logs 0) (sym is.run_is) ∙ at.1)
    in
    let same : caster_log w ≡ at.0 = ap (λ o. unwrap_or o []) at.1 in
    let short : length (evicted (setup seed).session at.0) ≤ 5 =
    filter-short (λ q. is_some (kept at.0 q)) (peers_of (setup seed).session)
    in
    (told_so ∙ ap (λ l. evicted (setup seed).session l) (sym same) ∙ end-evicted seed, subst (λ z. length z ≤ 5) (sym told_so) short)
