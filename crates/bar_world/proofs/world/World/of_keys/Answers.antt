use Rattle.std.proofs.Common.{◌≡◌, ◌+◌, ◌<◌, ◌∙◌, ◌∷◌, suc, length, ap, arith}
use Rattle.std.specs.Prelude.{slice_get}
use Rattle.std.proofs.lemmas.List.{length-map}
use Rattle.std.proofs.lemmas.Option.{slice_get-get_or, slice_get_within}
use Rattle.bar_roster.specs.declared.key_file.KeyFile.{KeyFile}
use Rattle.bar_world.specs.Keys.{held_in}
use Rattle.bar_world.specs.Code.Packets.{packets_of}
use Rattle.bar_world.proofs.Started.{caster-key, first-and-rest, peer-key, started, texts-count}
use Rattle.bar_world.proofs.world.World.of_keys.Goals.{After-remove}
use Rattle.bar_world.proofs.world.World.of_keys.Goals as goal

split : (c : After-remove) → c.args.keys.items ≡ c.remove.result ∷ c.remove.new.self.items
split c =
    first-and-rest _ _ _ c.requires.made c.requires.setup c.requires.parties _ _ c.remove.ensures.value c.remove.ensures.items

pub start_caster-requires-clause-key : goal.start_caster-requires-clause-key
start_caster-requires-clause-key c =
    caster-key _ _ _ c.requires.made c.requires.setup c.requires.parties _
    (ap (λ xs. slice_get xs 0) (split (goal.at.start_caster-requires-clause-key c).After-remove))

pub start_peers-requires-clause-keys : goal.start_peers-requires-clause-keys
start_peers-requires-clause-keys c = λ i key at.
    peer-key _ _ _ c.requires.made c.requires.setup c.requires.parties i key
    (ap (λ xs. slice_get xs (suc i)) (split (goal.at.start_peers-requires-clause-keys c).After-remove) ∙ at)

pub returns-clause-ready : goal.returns-clause-ready
returns-clause-ready c =
    let count : length c.in_ok-peers.peers.items ≡ length c.remove.new.self.items = c.in_ok-peers.ensures.count in
    let all : length c.args.keys.items ≡ length c.remove.new.self.items + 1 =
    ap length (split (goal.at.returns-clause-ready c).After-remove) ∙ omega arith
    in
    record {
      caster = c.in_ok-caster.ensures.idle;
      peers = λ i peer at.
          let low : i < length c.in_ok-peers.peers.items = slice_get_within _ i peer at in
          (c.in_ok-peers.ensures.peers i peer _ at (slice_get-get_or _ i c.remove.result (omega (arith, low, count)))).idle;
      texts = texts-count _ _ c.in_ok-played.ensures ∙ omega (arith, count, all, c.len.ensures);
      room = omega (arith, c.in_ok-buf.ensures.len, c.from.ensures);
    }

pub returns-clause-stands : goal.returns-clause-stands
returns-clause-stands c =
    let keys = c.args.keys.items in
    let held : length (held_in keys) ≡ length keys = length-map keys (λ (key : KeyFile). key.secrets) in
    let count : c.len.result ≡ length (held_in keys) = omega (arith, held, c.len.ensures) in
    started c.args.session.now (held_in keys) c.args.stream.items c.requires.setup c.requires.parties _ c.remove.result
    c.remove.new.self.items (ap held_in (split (goal.at.returns-clause-stands c).After-remove)) c.in_ok-caster.ensures
    c.in_ok-peers.ensures.count c.in_ok-peers.ensures.peers c.len.result count c.in_ok-played.ensures (ap packets_of c.new.ensures.items)
