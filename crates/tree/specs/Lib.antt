pub mod TreeViewLaws
pub mod Light
