pub mod Envelopes
pub mod Misfits
pub mod Passes
pub mod SameSigned
pub mod SameAnswer
pub mod OnlySigned
pub mod ForC
