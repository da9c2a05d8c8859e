pub mod NameCases
