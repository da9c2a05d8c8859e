pub mod Turns
pub mod Eights
