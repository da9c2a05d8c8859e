pub mod Field
pub mod FieldLaws
pub mod Output
pub mod OutputLaws
pub mod Examples
