pub mod TreeCases
pub mod LightCases
