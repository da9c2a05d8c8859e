pub mod Strange
pub mod StrangeLaws
pub mod Examples
