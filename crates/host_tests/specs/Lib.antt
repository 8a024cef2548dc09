pub mod WireExamples
