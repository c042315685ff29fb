-- What a tick sends again.
mod Sends
mod OtherCases
mod OwnCase
mod Called
-- the lemmas that other groups may cite
pub use Rattle.bar_laws.proofs.Repeating.Sends.{all-append}
pub use Rattle.bar_laws.proofs.Repeating.OwnCase.{says-cases-again}
pub use Rattle.bar_laws.proofs.Repeating.Called.{IsCalled, run-called}
