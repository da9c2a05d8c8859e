pub mod Examples
pub mod FormLaws
pub mod Heads
pub mod RequestLaws
pub mod WriteCases
pub mod AnswerCases
