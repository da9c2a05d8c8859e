pub mod Cases
pub mod SlipCases
