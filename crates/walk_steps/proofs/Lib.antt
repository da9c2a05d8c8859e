pub mod StepCases
