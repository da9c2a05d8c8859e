pub mod Kept
pub mod Room
pub mod KeptLaws
pub mod SameLineLaws
pub mod Read
pub mod ReadLaws
