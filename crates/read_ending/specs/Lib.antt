pub mod Ends
pub mod PartLaws
