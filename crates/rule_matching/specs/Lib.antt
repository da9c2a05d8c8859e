pub mod Match
pub mod Matched
pub mod CertForm
pub mod Known
