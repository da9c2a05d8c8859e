pub mod ReadCases
