pub mod AlgorithmCases
