pub mod OptionLemmas
pub mod TakenLemmas
pub mod WorkedLines
pub mod ValueLemmas
