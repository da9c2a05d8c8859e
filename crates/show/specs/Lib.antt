pub mod Parts
pub mod Shown
pub mod Steps
