pub mod EntryLaws
pub mod Examples
pub mod PartsLaws
pub mod ShownLaws
pub mod StepsLaws
pub mod ShownCases
pub mod EntryCases
