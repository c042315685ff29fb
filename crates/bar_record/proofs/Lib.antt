pub mod EntryLemmas
pub mod ReadLemmas
pub mod HeadLemmas
pub mod PacingLemmas
pub mod DueLemmas
pub mod ReadBackLemmas
pub mod Worked
