pub mod Request
pub mod RequestFormat
pub mod Heads
