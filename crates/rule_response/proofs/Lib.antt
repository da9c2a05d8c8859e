pub mod SignCases
pub mod OpenCases
