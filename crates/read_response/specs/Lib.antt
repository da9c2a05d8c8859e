pub mod Judged
pub mod Parts
pub mod Stands
pub mod JudgedLaws
pub mod Refusals
pub mod Content
pub mod Placed
