-- The broadcaster over every list of inputs: what it signs, whom it evicts, what it sends again, and to whom it sends.
mod SentToAll
mod Steps
mod Serving
mod Signing
mod Evicting
mod FanoutCounts
mod FanoutSends
mod Growing
mod Naming
mod Repeating
-- the lemmas that other groups may cite
pub use Rattle.bar_laws.proofs.Broadcasts.Serving.{serves-the-others}
pub use Rattle.bar_laws.proofs.Broadcasts.Signing.{signs-once}
pub use Rattle.bar_laws.proofs.Broadcasts.Evicting.{evicts-exactly}
pub use Rattle.bar_laws.proofs.Broadcasts.FanoutCounts.{fanouts-whole}
pub use Rattle.bar_laws.proofs.Broadcasts.FanoutSends.{to-the-fanout, out-twice, datagram-time}
pub use Rattle.bar_laws.proofs.Broadcasts.Growing.{caster-grows}
pub use Rattle.bar_laws.proofs.Broadcasts.SentToAll.{Sends, with_sends, to_each, no-more, one-more, all-flat, repeat-flat}
pub use Rattle.bar_laws.proofs.Broadcasts.Steps.{judged-keeps}
pub use Rattle.bar_laws.proofs.Broadcasts.Naming.{NamesKept, run-names}
pub use Rattle.bar_laws.proofs.Broadcasts.Repeating.{manifests-repeated, late-admitted}
