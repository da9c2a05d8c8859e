pub mod BodyCases
