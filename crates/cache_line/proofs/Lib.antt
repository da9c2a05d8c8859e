pub mod PartCases
pub mod SayCases
pub mod Turns
pub mod Cases
pub mod AskCases
pub mod InputCases
