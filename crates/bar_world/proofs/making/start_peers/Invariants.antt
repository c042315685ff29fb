use Rattle.std.proofs.Common.{◌≡◌, ◌++◌, ℕ, Some, length}
use Rattle.std.specs.Prelude.{slice_get}
use Rattle.std.specs.Vec.Iter.{into_iter_items}
use Rattle.bar_roster.specs.declared.key_file.KeyFile.{KeyFile}
use Rattle.bar_rules.specs.Members.{member_by}
use Rattle.bar_peer.specs.Core.{peer_rules, face_of}
use Rattle.bar_peer.specs.Code.StandsFor.{StandsFor}
use Rattle.bar_world.specs.Code.Cores.{IsNewCore}
use Rattle.bar_world.proofs.making.start_peers.Given as goal

-- a peer is started for each key file before the current one, and the other key files are left
abbrev pub invariant-loop-key : goal.invariant-loop-key
invariant-loop-key l = record {
  split : l.fn.keys.items ≡ l.yielded ++ into_iter_items l.key-iterator;
  count : length l.peers.items ≡ length l.yielded;
  peers :
      (i : ℕ) (peer : _) (key : KeyFile) → slice_get l.peers.items i ≡ Some peer → slice_get l.fn.keys.items i ≡ Some key
      → IsNewCore (peer_rules (member_by l.session key.secrets)) (StandsFor peer.memory) (face_of peer.memory peer.orders peer.playing);
}
