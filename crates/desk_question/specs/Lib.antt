pub mod Asked
pub mod Line
pub mod Examples
pub mod FitsLaws
