pub mod Clock
pub mod ClockLaws
pub mod Fresh
pub mod FreshLaws
pub mod Examples
