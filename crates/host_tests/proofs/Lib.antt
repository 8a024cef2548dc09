pub mod WireByComputation
