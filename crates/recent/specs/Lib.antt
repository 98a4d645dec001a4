pub mod Entering
pub mod Registers
pub mod Found
pub mod SoundRegisters
pub mod Statements
