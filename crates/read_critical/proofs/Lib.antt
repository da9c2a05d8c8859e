pub mod StrangeCases
pub mod StrangeAround
