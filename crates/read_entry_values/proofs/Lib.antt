pub mod LookCases
