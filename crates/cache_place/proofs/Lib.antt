pub mod Cases
pub mod PlaceCases
pub mod SlipCases
pub mod ZeroCases
