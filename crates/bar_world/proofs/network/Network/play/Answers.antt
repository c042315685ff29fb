use Rattle.std.proofs.Common.{◌≡◌, ◌+◌, ◌*◌, ◌^◌, ◌<◌, sym, ap, subst, arith}
use Rattle.std.specs.List.{range_with_len}
use Rattle.bar_world.specs.Network.{played_on, ticked, drained}
use Rattle.bar_world.specs.Code.Playing.{IsPlaying}
use Rattle.bar_world.proofs.Rounds.{played-more, played-none, fewer-counts, counts-stay, words-stay}
use Rattle.bar_world.proofs.network.Network.play.Goals as goal

pub loop-tick-init : goal.loop-tick-init
loop-tick-init c = record {
  ready = c.requires.ready;
  plays = λ game play is. subst (λ z. IsPlaying game z c.args.self.now) (sym (played-none game 4096 play)) is;
  words = λ n h. omega (arith, h);
  room = λ n h. fewer-counts c.args.self.now (n + 4096 * 0) n (omega arith) h;
}

pub drain-requires-clause-words : goal.drain-requires-clause-words
drain-requires-clause-words c =
    let low : c.args.self.now.words.word_pos + 4096 * c.args.ticks < 2 ^ 68 = c.requires.words in
    let few : c.loop-tick.tick < c.args.ticks = c.loop-tick-test.true in
    words-stay c.loop-tick.self c.tick_all.new.self 4096 c.in_ok-tick_all.ensures.counts
    (c.loop-tick.invariant.words 4096 (omega (arith, low, few)))

pub drain-requires-clause-room : goal.drain-requires-clause-room
drain-requires-clause-room c =
    let few : c.loop-tick.tick < c.args.ticks = c.loop-tick-test.true in
    counts-stay c.loop-tick.self c.tick_all.new.self 4096 c.in_ok-tick_all.ensures.counts
    (c.loop-tick.invariant.room 4096
    (fewer-counts c.args.self.now (4096 * c.args.ticks) (4096 + 4096 * c.loop-tick.tick) (omega (arith, few)) c.requires.room))

pub loop-tick-preserved : goal.loop-tick-preserved
loop-tick-preserved c = record {
  ready = c.in_ok-drain.ensures.ready;
  plays = λ game play is.
      let now = c.loop-tick.invariant.plays game play is in
      let parties : c.loop-tick.self.liar.shape.peers ≡ game.setup.session.shape.peers = ap (λ s. s.peers) (sym now.liar_is.shape_is) in
      subst (λ z. IsPlaying game z c.drain.new.self) (sym (played-more game 4096 c.loop-tick.tick play))
      (subst (λ n. IsPlaying game (drained game 4096 (ticked game (range_with_len 0 (n + 1)) (played_on game 4096 c.loop-tick.tick play)))
      c.drain.new.self) parties
      (c.in_ok-drain.ensures.plays game _ (c.in_ok-tick_all.ensures.plays game (played_on game 4096 c.loop-tick.tick play) now)));
  words = λ n h. c.in_ok-drain.ensures.words n
      (words-stay c.loop-tick.self c.tick_all.new.self (n + 4096) c.in_ok-tick_all.ensures.counts
      (c.loop-tick.invariant.words (n + 4096) (omega (arith, h))));
  room = λ n h. c.in_ok-drain.ensures.room n
      (counts-stay c.loop-tick.self c.tick_all.new.self (n + 4096) c.in_ok-tick_all.ensures.counts
      (c.loop-tick.invariant.room (n + 4096)
      (fewer-counts c.args.self.now (n + 4096 * (c.loop-tick.tick + 1)) (n + 4096 + 4096 * c.loop-tick.tick) (omega arith) h)));
}

pub returns-clause-plays : goal.returns-clause-plays
returns-clause-plays c = λ game play is.
    let all : c.loop-tick.tick ≡ c.args.ticks = omega arith in
    subst (λ n. IsPlaying game (played_on game 4096 n play) c.loop-tick.self) all (c.loop-tick.invariant.plays game play is)
