pub mod Card
pub mod CardLaws
pub mod Verdict
pub mod VerdictLaws
pub mod Examples
