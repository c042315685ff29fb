-- Exchanges and their two sides.
use Rattle.std.specs.Prelude.{ℕ, ◌==◌, ◌&&◌, Bool, List, ◌++◌}
use Rattle.bar_bytes.specs.Bytes.{u8_bytes, u16_bytes, u32_bytes}
use Rattle.bar_window.specs.declared.exchange.XKind.{XKind}
use Rattle.bar_window.specs.declared.exchange.XKind.TheVariants.{Balanced, Push}
use Rattle.bar_window.specs.declared.exchange.Role.{Role}
use Rattle.bar_window.specs.declared.exchange.Role.TheVariants.{Initiator, Responder}
use Rattle.bar_window.specs.declared.exchange.Exchange.{Exchange}

abbrev pub kind_code : XKind → ℕ
kind_code Balanced = 0
kind_code Push = 1

abbrev pub role_code : Role → ℕ
role_code Initiator = 0
role_code Responder = 1

abbrev pub other_role : Role → Role
other_role Initiator = Responder
other_role Responder = Initiator

abbrev pub same_kind : XKind → XKind → Bool
same_kind a b = kind_code a == kind_code b

abbrev pub same_role : Role → Role → Bool
same_role a b = role_code a == role_code b

abbrev pub same_exchange : Exchange → Exchange → Bool
same_exchange x y = (x.round == y.round) && same_kind x.kind y.kind && (x.initiator == y.initiator) && (x.responder == y.responder)

-- the bytes that name an exchange, nine of them
abbrev pub exchange_bytes : Exchange → List ℕ
exchange_bytes x = u32_bytes x.round ++ u8_bytes (kind_code x.kind) ++ u16_bytes x.initiator ++ u16_bytes x.responder

-- the party on a side of an exchange
abbrev pub party_on : Exchange → Role → ℕ
party_on x Initiator = x.initiator
party_on x Responder = x.responder
