pub mod YearLaws
pub mod MonthLaws
pub mod FitLaws
pub mod PlainCases
