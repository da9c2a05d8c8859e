pub mod Examples
pub mod HandedLaws
pub mod StepLaws
pub mod Theorem
