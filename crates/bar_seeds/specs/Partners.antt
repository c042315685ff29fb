-- How a seed chooses a party's partner among peers 1 to n.
use Rattle.std.specs.Prelude.{ℕ, ◌+◌, ◌-◌, ◌%◌, nat_lt, if◌then◌else◌, List, ◌++◌, take, codes}
use Rattle.std.specs.Int.{w64, from_be_bytes}
use Rattle.bar_bytes.specs.Bytes.{u8_bytes}
use Rattle.bar_bytes.specs.Tag.{tagged}
use Rattle.bar_window.specs.declared.exchange.XKind.{XKind}
use Rattle.bar_window.specs.Exchange.{kind_code}

-- the number that a seed gives an exchange of a kind: the first eight bytes of a hash
unfoldable pub number_of : List ℕ → List ℕ → XKind → ℕ
number_of id seed kind = from_be_bytes w64 (take 8 (tagged (codes "PRT1") id (seed ++ u8_bytes (kind_code kind))))

-- the peer at a place, from 0, among all peers except one
abbrev pub peer_but : ℕ → ℕ → ℕ
peer_but me place = (if nat_lt (place + 1) me then place + 1 else place + 2)

-- the partner among `peers` peers
unfoldable pub partner_of : List ℕ → ℕ → List ℕ → XKind → ℕ → ℕ
partner_of id peers seed kind me = peer_but me (number_of id seed kind % (peers - 1))
