pub mod CertCases
