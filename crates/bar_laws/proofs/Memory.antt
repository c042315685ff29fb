-- What a peer may forget: the knowledge that a log represents after each entry, and knowledge that agrees with it.
mod InLife
mod OpenList
mod Learning
mod MachineImage
mod AgreeLogs
mod AgreeRows
mod AgreeOrders
mod AgreeReplies
mod AgreeTicks
mod AgreeTotals
mod GoingOn
mod Rewritten
mod Remembered
mod Sound
-- the lemmas that other groups may cite
pub use Rattle.bar_laws.proofs.Memory.OpenList.{opened-rising}
pub use Rattle.bar_laws.proofs.Memory.MachineImage.{runs-as-known, learned, step-image}
pub use Rattle.bar_laws.proofs.Memory.AgreeLogs.{agree-trans}
pub use Rattle.bar_laws.proofs.Memory.AgreeTicks.{answers-alike}
pub use Rattle.bar_laws.proofs.Memory.AgreeTotals.{totals-agree}
pub use Rattle.bar_laws.proofs.Memory.GoingOn.{goes-on}
pub use Rattle.bar_laws.proofs.Memory.Rewritten.{rewritten}
pub use Rattle.bar_laws.proofs.Memory.Remembered.{remembered}
pub use Rattle.bar_laws.proofs.Memory.Sound.{sound, found-heard}
