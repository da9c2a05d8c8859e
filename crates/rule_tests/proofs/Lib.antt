pub mod PlaceCases
