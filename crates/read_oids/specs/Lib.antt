pub mod Seen
pub mod NameLaws
pub mod NamedLaws
