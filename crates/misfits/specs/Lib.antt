pub mod Tests
pub mod Described
pub mod Misfits
pub mod EnvelopeLaws
pub mod Theorem
