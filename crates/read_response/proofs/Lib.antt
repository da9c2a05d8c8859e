pub mod Examples
pub mod JudgedLaws
pub mod OutcomeLaws
pub mod PartsLaws
pub mod Stands
pub mod Sizes
pub mod BasicCases
pub mod JudgeCases
