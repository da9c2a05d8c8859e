pub mod CoverLaws
pub mod StringCases
pub mod CoverCases
