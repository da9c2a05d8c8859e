pub mod EntryLaws
pub mod EnvelopeLaws
pub mod Examples
pub mod FullExample
pub mod ResponseLaws
pub mod TestLaws
pub mod Theorem
