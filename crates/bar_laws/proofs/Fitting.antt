-- What parties sign and send is in the grammar, and is accepted.
mod CasterAdds
mod CasterFits
mod MessageLengths
mod Largest
mod SaidFits
mod EvidenceFits
mod PeerFits
mod SignedAccepted
mod SignedShort
-- the lemmas that other groups may cite
pub use Rattle.bar_laws.proofs.Fitting.CasterAdds.{IsOwnMessage, IsOfBegunRound, IsOwnBody, IsFair, AreOwn, AllFit, own-inside, caster-accepted, caster-casts}
pub use Rattle.bar_laws.proofs.Fitting.CasterFits.{manifest-fits, evict-fits, served-are-peers, block-whole, piece-short}
pub use Rattle.bar_laws.proofs.Fitting.PeerFits.{said-fits, step-fits, perform-before, perform_all-before}
pub use Rattle.bar_laws.proofs.Fitting.SignedAccepted.{said-accepted, signed-accepted}
pub use Rattle.bar_laws.proofs.Fitting.Largest.{heard-largest}
pub use Rattle.bar_laws.proofs.Fitting.EvidenceFits.{shown-short, evidence-fits-room}
pub use Rattle.bar_laws.proofs.Fitting.SignedShort.{signed-short}
