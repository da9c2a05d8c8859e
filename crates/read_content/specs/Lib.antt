pub mod Spots
pub mod ExpectLaws
pub mod PrimitiveLaws
pub mod PrimitiveCaseLaws
pub mod LastLaws
pub mod SpotLaws
pub mod Examples
