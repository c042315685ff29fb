-- What a peer gives out, and the totals that it reports.
pub mod Contents
pub mod Due
pub mod Next
pub mod Bodies
pub mod Signatures
pub mod Lengths
pub mod Totals
pub mod Kept
