use Rattle.std.proofs.Common.{◌≡◌, ◌<◌, ◌+◌, length, ◌∙◌, refl, sym, arith, length-set}
use Rattle.std.proofs.lemmas.Option.{slice_get_read}
use Rattle.std.specs.List.{length_refill}
use Rattle.std.specs.Vec.{with_item, with_items}
use Rattle.bar_world.proofs.Takes.{peer-ready, peer-took, on-ok}
use Rattle.bar_world.proofs.world.World.take_as_peer.Goals as goal

pub returns-clause-stands : goal.returns-clause-stands
returns-clause-stands c =
    let low : c.args.place < length c.args.self.now.peers.items = omega arith in
    let next : c.args.place + 1 < length c.args.self.now.played.items = omega arith in
    on-ok c.feed.result
    (λ fed setup moves m gives s.
    peer-took setup moves m c.args.place _ c.args.self.now _ _ _ c.parties_run_alone.ensures.peers gives _
    (slice_get_read _ _ c.args.place _ refl low c.index_mut.ensures.value) _ refl fed low
    (slice_get_read _ _ (c.args.place + 1) _ refl next c.index_mut-2.ensures.value) refl (length-set _ _ _) refl s)
    c.feed.ensures

pub feed-requires-clause-idle : goal.feed-requires-clause-idle
feed-requires-clause-idle c =
    let low : c.args.place < length c.args.self.now.peers.items = omega arith in
    c.requires.ready.peers c.args.place _ (slice_get_read _ _ c.args.place _ refl low c.index_mut.ensures.value)

pub returns-clause-ready : goal.returns-clause-ready
returns-clause-ready c =
    let len : c.args.self.now.buf.len ≡ length c.args.self.now.buf.items = omega arith in
    let room : length (with_items c.args.self.now.buf c.feed.new.buf).items ≡ length c.args.self.now.buf.items =
    sym (length_refill c.args.self.now.buf.len c.args.self.now.buf.items c.feed.new.buf len) ∙ len
    in
    on-ok c.feed.result
    (λ fed. peer-ready c.args.self.now
    (record c.args.self.now {
      peers = with_item c.args.self.now.peers c.args.place c.feed.new.core;
      played = with_item c.args.self.now.played (c.args.place + 1) c.feed.new.played;
      pool = c.feed.new.pool;
      buf = with_items c.args.self.now.buf c.feed.new.buf;
    })
    c.args.place c.feed.new.core refl fed.idle refl (length-set _ _ _) (length-set _ _ _) room
    c.requires.ready)
    c.feed.ensures
