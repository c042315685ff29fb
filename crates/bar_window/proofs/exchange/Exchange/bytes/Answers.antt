use Rattle.std.proofs.Common.{refl}
use Rattle.bar_bytes.specs.Bytes.{u16_bytes, u32_bytes}
use Rattle.bar_window.proofs.exchange.Exchange.bytes.Goals as goal

pub returns : goal.returns
unfolding u16_bytes u32_bytes
returns c = rw (c.to_be_bytes.ensures, c.to_be_bytes-2.ensures, c.to_be_bytes-3.ensures, c.code.ensures) refl
