pub mod Later
pub mod CheckLaws
pub mod CheckTheorem
pub mod SinceTheorem
pub mod FiledTheorem
pub mod DeskTheorem
