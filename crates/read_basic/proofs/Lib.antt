pub mod TailCases
pub mod ListCases
pub mod SignedCases
pub mod VersionCases
