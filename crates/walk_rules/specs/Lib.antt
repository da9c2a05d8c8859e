pub mod Step
pub mod StepLaws
pub mod Walked
pub mod Handed
pub mod HandedLaws
