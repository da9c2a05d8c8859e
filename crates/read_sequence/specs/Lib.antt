pub mod Judged
pub mod ViewLaws
pub mod CaseLaws
