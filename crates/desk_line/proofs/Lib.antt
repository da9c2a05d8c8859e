pub mod LineCases
