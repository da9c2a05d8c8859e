pub mod EntryCases
pub mod CardCases
pub mod CheckCases
