pub mod Description
pub mod Faults
pub mod Order
pub mod Head
pub mod Finds
pub mod PartLaws
pub mod Placed
pub mod Opened
