pub mod AskedLaws
pub mod Examples
pub mod FitsLaws
pub mod LineLaws
pub mod SizeLaws
