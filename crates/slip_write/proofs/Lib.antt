pub mod PutCases
pub mod WriteCases
