pub mod Views
pub mod MoreLaws
pub mod MoreReads
