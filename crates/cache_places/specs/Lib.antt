pub mod Evenly
pub mod EvenlyLaws
pub mod Marks
