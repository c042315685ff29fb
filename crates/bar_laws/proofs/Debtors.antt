-- A party that owes a key isn't served.
mod Refused
mod Spared
mod Moments
mod Counted
-- the lemmas that other groups may cite
pub use Rattle.bar_laws.proofs.Debtors.Counted.{serves-no-debtor}
