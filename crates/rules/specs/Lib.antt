pub mod Question
pub mod Signer
pub mod Order
pub mod Ruling
pub mod Rows
pub mod Accepted
pub mod OneCard
pub mod Examples
