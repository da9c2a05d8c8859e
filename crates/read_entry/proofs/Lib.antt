pub mod CountTurns
pub mod SingleCases
