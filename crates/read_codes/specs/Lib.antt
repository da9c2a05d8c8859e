pub mod Codes
pub mod CodeLaws
pub mod Examples
