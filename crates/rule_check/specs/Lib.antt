pub mod EntryRuled
pub mod EntryRuledLaws
pub mod CardRuled
pub mod CheckLaws
