pub mod CertFormLaws
pub mod Examples
pub mod FieldsLaws
pub mod Known
pub mod MatchLaws
pub mod Matched
pub mod FormCases
pub mod FieldCases
