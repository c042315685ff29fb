use Rattle.std.proofs.Common.{◌≡◌, ◌+◌, refl, sym, ◌∙◌, subst, arith}
use Rattle.std.specs.List.{range_with_len}
use Rattle.bar_world.specs.Network.{ticked}
use Rattle.bar_world.specs.Code.Playing.{IsPlaying}
use Rattle.bar_world.proofs.Rounds.{ticked-more, ticked-none}
use Rattle.bar_world.proofs.network.Network.tick_all.Goals as goal

pub loop-party-init : goal.loop-party-init
loop-party-init c = record {
  ready = c.requires;
  plays = λ game play is. subst (λ z. IsPlaying game z c.args.self.now) (sym (ticked-none game play)) is;
  counts = record { words = refl; delivered = refl; lost = refl; repeated = refl };
}

pub loop-party-preserved : goal.loop-party-preserved
loop-party-preserved c = record {
  ready = c.in_ok-make.ensures.ready;
  plays = λ game play is. subst (λ z. IsPlaying game z c.make.new.self) (sym (ticked-more game c.loop-party.party play))
      (c.in_ok-make.ensures.plays game (ticked game (range_with_len 0 c.loop-party.party) play)
      (c.loop-party.invariant.plays game play is));
  counts = record {
    words = c.in_ok-make.ensures.counts.words ∙ c.loop-party.invariant.counts.words;
    delivered = c.in_ok-make.ensures.counts.delivered ∙ c.loop-party.invariant.counts.delivered;
    lost = c.in_ok-make.ensures.counts.lost ∙ c.loop-party.invariant.counts.lost;
    repeated = c.in_ok-make.ensures.counts.repeated ∙ c.loop-party.invariant.counts.repeated;
  };
}

pub returns-clause-plays : goal.returns-clause-plays
returns-clause-plays c = λ game play is.
    let all : c.loop-party.party ≡ c.args.self.now.liar.shape.peers + 1 = omega arith in
    subst (λ n. IsPlaying game (ticked game (range_with_len 0 n) play) c.loop-party.self) all (c.loop-party.invariant.plays game play is)
