-- How a drawn number decides an entry of the queue.
use Rattle.std.specs.declared.alloc.AllocError.{AllocError}
use Rattle.std.specs.declared.alloc.Global.{Global}
use Rattle.std.specs.declared.collections.VecDeque.{VecDeque}
use Rattle.rand_chacha.specs.ChaCha.{ChaCha, word_at, next_word}
use Rattle.bar_rules.specs.World.World as plain
use Rattle.bar_world.specs.declared.moves.Move.{Move}
use Rattle.bar_world.specs.declared.network.Network.{Network}
use Rattle.bar_world.specs.Code.Moves.{plain_move}
use Rattle.bar_world.specs.Network.{Game, Play, moved, decided, lost_one, delivered_once, delivered_twice, drew, served, served_by}
use Rattle.bar_world.specs.Code.Playing.{HasCounts, IsPlaying, Plays, queue_of}
use Rattle.std.proofs.Common.{◌≡◌, ℕ, suc, Bool, true, false, [], ◌∷◌, ◌+◌, ◌%◌, ◌^◌, ◌<◌, refl, sym, ap, ◌∙◌, subst, eqb, cond, arith}
use Rattle.std.proofs.lemmas.Bool.{ne_eqb}
use Rattle.std.specs.Prelude.{Result, Ok, Err, OnOk}

-- ---- counting

once-counted : (game : Game) (play : Play) (net : Network) → IsPlaying game play net
    → IsPlaying game (record play { delivered = play.delivered + 1 }) (record net { delivered = net.delivered + 1 })
once-counted game play net is = record {
  liar_is = is.liar_is;
  world = is.world;
  run_is = is.run_is;
  queue = is.queue;
  drawn = is.drawn;
  delivered = ap (λ n. n + 1) is.delivered;
  lost = is.lost;
  repeated = is.repeated;
}

twice-counted : (game : Game) (play : Play) (net : Network) → IsPlaying game play net
    → IsPlaying game (record play { delivered = play.delivered + 1; repeated = play.repeated + 1 })
    (record net { delivered = net.delivered + 1; repeated = net.repeated + 1 })
twice-counted game play net is = record {
  liar_is = is.liar_is;
  world = is.world;
  run_is = is.run_is;
  queue = is.queue;
  drawn = is.drawn;
  delivered = ap (λ n. n + 1) is.delivered;
  lost = is.lost;
  repeated = ap (λ n. n + 1) is.repeated;
}

-- ---- the cases of the number

abbrev By : plain.Move → Bool → Bool → Game → Play → Play
By m b c game play = cond b (lost_one play) (cond c (delivered_twice game play m) (delivered_once game play m))

tests-are : (old new : Network) (m : plain.Move) (b c d e : Bool) → b ≡ d → c ≡ e → Plays (By m b c) old new → Plays (By m d e) old new
tests-are old new m b c d e f g is = subst (λ z. Plays (By m z e) old new) f (subst (λ z. Plays (By m b z) old new) g is)

pub once-ok : (old new : Network) (m : plain.Move) (number : ℕ) (r : Result (Unit {0}) AllocError) → (number % 10 ≡ 0 → ⊥)
    → (number % 10 ≡ 1 → ⊥) → OnOk r (Plays (λ game play. moved game play m) (record old { delivered = old.delivered + 1 }) new)
    → OnOk r (Plays (λ game play. decided game play m number) old new)
once-ok old new m number (Ok u) zero_not one_not moves =
    tests-are old new m false false (eqb (number % 10) 0) (eqb (number % 10) 1) (sym (ne_eqb _ _ zero_not)) (sym (ne_eqb _ _ one_not))
    (λ game play is. moves game (record play { delivered = play.delivered + 1 }) (once-counted game play old is))
once-ok old new m number (Err e) zero_not one_not moves = tt

pub twice-ok : (old mid new : Network) (m : plain.Move) (number : ℕ) (r : Result (Unit {0}) AllocError) → number % 10 ≡ 1
    → Plays (λ game play. moved game play m) (record old { delivered = old.delivered + 1; repeated = old.repeated + 1 }) mid
    → OnOk r (Plays (λ game play. moved game play m) mid new) → OnOk r (Plays (λ game play. decided game play m number) old new)
twice-ok old mid new m number (Ok u) one first second =
    tests-are old new m false true (eqb (number % 10) 0) (eqb (number % 10) 1) (ap (λ k. eqb k 0) (sym one)) (ap (λ k. eqb k 1) (sym one))
    (λ game play is. second game _ (first game _ (twice-counted game play old is)))
twice-ok old mid new m number (Err e) one first second = tt

-- ---- the queue's first entry

drew-is : (game : Game) (play : Play) (old : Network) (queue : VecDeque Move Global) (words : ChaCha) (entry : Move)
    → old.queue.items ≡ entry ∷ queue.items → words ≡ record old.words { word_pos = old.words.word_pos + 1 } → IsPlaying game play old
    → IsPlaying game (drew play (queue_of queue.items)) (record old { queue = queue; words = words })
drew-is game play old queue words entry popped next is = record {
  liar_is = is.liar_is;
  world = is.world;
  run_is = is.run_is;
  queue = refl;
  drawn = λ k.
      let e : play.draws + 1 + k ≡ play.draws + suc k = omega arith in
      let f : old.words.word_pos + suc k ≡ old.words.word_pos + 1 + k = omega arith in
      ap game.drawn e
      ∙ is.drawn (suc k)
      ∙ ap (λ n. word_at 10 old.words.key old.words.stream n) f
      ∙ ap (λ (w : ChaCha). word_at 10 w.key w.stream (w.word_pos + k)) (sym next);
  delivered = is.delivered;
  lost = is.lost;
  repeated = is.repeated;
}

drawn-is : (game : Game) (play : Play) (old : Network) (number : ℕ)
    → number ≡ word_at 10 old.words.key old.words.stream old.words.word_pos → IsPlaying game play old → number ≡ game.drawn play.draws
drawn-is game play old number e is =
    let a : old.words.word_pos + 0 ≡ old.words.word_pos = omega arith in
    let b : play.draws + 0 ≡ play.draws = omega arith in
    e ∙ ap (λ n. word_at 10 old.words.key old.words.stream n) (sym a) ∙ sym (is.drawn 0) ∙ ap game.drawn b

next-words : (w next : ChaCha) (number : ℕ) → w.word_pos + 1 < 2 ^ 68 → (number, next) ≡ next_word 10 w
    → (number ≡ word_at 10 w.key w.stream w.word_pos) × (next ≡ record w { word_pos = w.word_pos + 1 })
next-words w next number small e =
    let m : (w.word_pos + 1) % 2 ^ 68 ≡ w.word_pos + 1 = omega arith in
    (ap (λ (p : ℕ × ChaCha). p.0) e, ap (λ (p : ℕ × ChaCha). p.1) e ∙ ap (λ n. record w { word_pos = n }) m)

pub served-ok : (old new : Network) (queue : VecDeque Move Global) (words : ChaCha) (entry : Move) (number : ℕ)
    (r : Result (Unit {0}) AllocError) → old.queue.items ≡ entry ∷ queue.items → old.words.word_pos + 1 < 2 ^ 68
    → (number, words) ≡ next_word 10 old.words
    → OnOk r (Plays (λ game play. decided game play (plain_move entry) number) (record old { queue = queue; words = words }) new)
    → OnOk r (Plays served old new)
served-ok old new queue words entry number (Err e) popped small next decides = tt
served-ok old new queue words entry number (Ok u) popped small next decides = λ game play is.
    let n = next-words old.words words number small next in
    let d : IsPlaying game (decided game (drew play (queue_of queue.items)) (plain_move entry) number) new =
    decides game (drew play (queue_of queue.items)) (drew-is game play old queue words entry popped n.1 is)
    in
    let e : number ≡ game.drawn play.draws = drawn-is game play old number n.0 is in
    let q : plain_move entry ∷ queue_of queue.items ≡ play.queue = ap queue_of (sym popped) ∙ is.queue in
    subst (λ z. IsPlaying game (served_by game play z) new) q
    (subst (λ z. IsPlaying game (decided game (drew play (queue_of queue.items)) (plain_move entry) z) new) e d)

pub served-none : (old new : Network) (game : Game) (play : Play) → old.queue.items ≡ [] → IsPlaying game play old
    → IsPlaying game play new → IsPlaying game (served game play) new
served-none old new game play none is after =
    let q : [] ≡ play.queue = ap queue_of (sym none) ∙ is.queue in
    subst (λ z. IsPlaying game (served_by game play z) new) q after

-- ---- room

pub counts-ok : (old mid new : Network) (r : Result (Unit {0}) AllocError) → mid.delivered ≡ old.delivered → mid.lost ≡ old.lost
    → mid.repeated ≡ old.repeated → OnOk r ((n : ℕ) → HasCounts (n + 1) mid → HasCounts n new)
    → OnOk r ((n : ℕ) → HasCounts (n + 1) old → HasCounts n new)
counts-ok old mid new (Ok u) d l p f = λ n h. f n (record {
  delivered = subst (λ z. z + (n + 1) < 2 ^ 64) (sym d) h.delivered;
  lost = subst (λ z. z + (n + 1) < 2 ^ 64) (sym l) h.lost;
  repeated = subst (λ z. z + (n + 1) < 2 ^ 64) (sym p) h.repeated;
})
counts-ok old mid new (Err e) d l p f = tt
