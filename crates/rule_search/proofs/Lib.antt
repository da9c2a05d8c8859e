pub mod FoundLaws
pub mod SearchLaws
pub mod HereCases
pub mod LentCases
pub mod SearchTurns
