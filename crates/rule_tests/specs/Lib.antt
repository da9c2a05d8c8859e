pub mod StrangePlace
pub mod StrangeInLaws
