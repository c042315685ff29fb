use Rattle.std.proofs.Common.{◌≡◌, ◌+◌, ◌^◌, ◌<◌, sym, subst, arith}
use Rattle.bar_world.specs.Network.{drained}
use Rattle.bar_world.specs.Code.Playing.{IsPlaying}
use Rattle.bar_world.proofs.Rounds.{drained-more, drained-none, fewer-counts}
use Rattle.bar_world.proofs.network.Network.drain.Goals as goal

pub loop-turn-init : goal.loop-turn-init
loop-turn-init c = record {
  ready = c.requires.ready;
  plays = λ game play is. subst (λ z. IsPlaying game z c.args.self.now) (sym (drained-none game play)) is;
  words = λ n h. omega (arith, h);
  room = λ n h. fewer-counts c.args.self.now (n + 0) n (omega arith) h;
}

pub serve-requires-clause-ready : goal.serve-requires-clause-ready
serve-requires-clause-ready c = c.loop-turn.invariant.ready

pub serve-requires-clause-words : goal.serve-requires-clause-words
serve-requires-clause-words c =
    let low : c.args.self.now.words.word_pos + 4096 < 2 ^ 68 = c.requires.words in
    let few : c.loop-turn.turn < 4096 = c.loop-turn-test.true in
    c.loop-turn.invariant.words 1 (omega (arith, low, few))

pub serve-requires-clause-room : goal.serve-requires-clause-room
serve-requires-clause-room c =
    let few : c.loop-turn.turn < 4096 = c.loop-turn-test.true in
    c.loop-turn.invariant.room 1 (fewer-counts c.args.self.now 4096 (1 + c.loop-turn.turn) (omega (arith, few)) c.requires.room)

pub loop-turn-preserved : goal.loop-turn-preserved
loop-turn-preserved c = record {
  ready = c.in_ok-serve.ensures.ready;
  plays = λ game play is. subst (λ z. IsPlaying game z c.serve.new.self) (sym (drained-more game c.loop-turn.turn play))
      (c.in_ok-serve.ensures.plays game (drained game c.loop-turn.turn play) (c.loop-turn.invariant.plays game play is));
  words = λ n h. c.in_ok-serve.ensures.words n (c.loop-turn.invariant.words (n + 1) (omega (arith, h)));
  room = λ n h. c.in_ok-serve.ensures.room n
      (c.loop-turn.invariant.room (n + 1)
      (fewer-counts c.args.self.now (n + (c.loop-turn.turn + 1)) (n + 1 + c.loop-turn.turn) (omega arith) h));
}

pub returns-clause-ready : goal.returns-clause-ready
returns-clause-ready c = c.loop-turn.invariant.ready

pub returns-clause-plays : goal.returns-clause-plays
returns-clause-plays c = λ game play is.
    let all : c.loop-turn.turn ≡ 4096 = omega arith in
    subst (λ n. IsPlaying game (drained game n play) c.loop-turn.self) all (c.loop-turn.invariant.plays game play is)

pub returns-clause-words : goal.returns-clause-words
returns-clause-words c = λ n h.
    let all : c.loop-turn.turn ≡ 4096 = omega arith in
    c.loop-turn.invariant.words n (omega (arith, h, all))

pub returns-clause-room : goal.returns-clause-room
returns-clause-room c = λ n h.
    let all : c.loop-turn.turn ≡ 4096 = omega arith in
    c.loop-turn.invariant.room n (fewer-counts c.args.self.now (n + 4096) (n + c.loop-turn.turn) (omega (arith, all)) h)
