-- The values that a party derives from its secret for one exchange, and the commitment to a history.
use Rattle.std.specs.Prelude.{ℕ, List, ◌++◌, codes}
use Rattle.bar_bytes.specs.Bytes.{u8_bytes}
use Rattle.bar_bytes.specs.Tag.{tagged}
use Rattle.bar_window.specs.declared.update.UpdateId.{UpdateId}
use Rattle.bar_window.specs.declared.exchange.Role.{Role}
use Rattle.bar_window.specs.declared.exchange.Exchange.{Exchange}
use Rattle.bar_window.specs.Exchange.{exchange_bytes, role_code}
use Rattle.bar_window.specs.WindowBytes.{window_bytes}
use Rattle.bar_seeds.specs.declared.secrets.Secrets.{Secrets}

-- the nonce of an exchange
unfoldable pub nonce_of : Secrets → Exchange → List ℕ
nonce_of s x = tagged (codes "NON1") s.id (exchange_bytes x ++ s.secret)

-- the key of the briefcase that a side of an exchange seals
unfoldable pub briefcase_key : Secrets → Exchange → Role → List ℕ
briefcase_key s x role = tagged (codes "KEY1") s.id (exchange_bytes x ++ u8_bytes (role_code role) ++ s.secret)

-- the commitment to a nonce and a history; the history is a set of updates of the window of the exchange's round, with `words` words for
-- each of `life` rounds
unfoldable pub commitment_of : ℕ → ℕ → List ℕ → Exchange → List ℕ → List UpdateId → List ℕ
commitment_of words life id x nonce ha = tagged (codes "CMT1") id (exchange_bytes x ++ nonce ++ window_bytes words life x.round ha)
