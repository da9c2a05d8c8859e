pub mod EndCases
