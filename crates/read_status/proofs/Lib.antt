pub mod StatusCases
