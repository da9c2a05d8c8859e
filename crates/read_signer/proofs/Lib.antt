pub mod SpotCases
