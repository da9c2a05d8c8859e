pub mod Looks
pub mod SeenLaws
pub mod SeenEndLaws
