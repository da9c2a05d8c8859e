pub mod SignerIn
pub mod SignerInLaws
pub mod Opened
pub mod OpenedLaws
