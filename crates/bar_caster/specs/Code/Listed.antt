-- The peers against which evidence is kept in rooms.
use Rattle.std.specs.Prelude.{ℕ, List, filter, is_some}
use Rattle.std.specs.List.{range_with_len}
use Rattle.bar_bytes.specs.declared.rooms.Rooms.{Rooms}
use Rattle.bar_bytes.specs.Code.Rooms.{kept_in}

-- the peers in whose rooms evidence is kept, in increasing order
abbrev pub peers_with_evidence : Rooms → ℕ → List ℕ
peers_with_evidence rooms peers = filter (λ q. is_some (kept_in rooms q)) (range_with_len 1 peers)
