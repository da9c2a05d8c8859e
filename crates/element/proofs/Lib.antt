pub mod TagCases
pub mod HeadCases
pub mod LengthCases
pub mod WriteCases
