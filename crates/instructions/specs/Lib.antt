pub mod Plan
pub mod Instruction
pub mod Made
pub mod Cycle
pub mod Stages
pub mod Private
