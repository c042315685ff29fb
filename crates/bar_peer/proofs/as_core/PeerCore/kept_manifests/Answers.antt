-- The length of an admitted manifest fits two bytes.
use Rattle.std.proofs.Common.{◌<◌, ◌^◌, ℕ, [], List, Option, length, sym, subst}
use Rattle.std.specs.Prelude.{IfSome}
use Rattle.bar_core.proofs.Mapped.{if-mapped}
use Rattle.bar_rules.specs.Peer.Log.{manifest}
use Rattle.bar_rules.specs.Peer.Run.{log_after}
use Rattle.bar_rules.specs.Values.{datagram_bytes}
use Rattle.bar_peer.specs.Code.Memory.{member_of}
use Rattle.bar_peer.proofs.Giving.Lengths.{manifest-short}
use Rattle.bar_peer.proofs.as_core.PeerCore.kept_manifests.Goals as goal

abbrev IsShort : List ℕ → Type 0
IsShort datagram = length datagram < 2 ^ 16

pub returns-clause-short : goal.returns-clause-short
returns-clause-short g c inputs stands round =
    let who = c.args.self.now.memory.who in
    let me = member_of who in
    subst (λ (o : Option (List ℕ)). IfSome o IsShort) (sym (c.manifests.ensures.kept inputs stands round))
    (if-mapped IsShort (datagram_bytes me.session) (manifest (log_after me [] inputs) round)
    (manifest-short c.datagrams_fit_their_rooms.ensures.run me inputs who.is_member.session round))
