pub mod NumberCases
pub mod TimeCases
