pub mod SingleCases
pub mod OctetCases
