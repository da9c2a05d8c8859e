pub mod Counts
pub mod Tails
pub mod Ids
pub mod EntryLaws
