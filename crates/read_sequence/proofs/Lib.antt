pub mod JudgedCases
