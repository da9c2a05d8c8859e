pub mod HeaderCases
pub mod ContentCases
