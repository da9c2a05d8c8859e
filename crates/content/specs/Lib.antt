pub mod Oid
pub mod OidLaws
pub mod Serial
pub mod SerialLaws
pub mod Examples
