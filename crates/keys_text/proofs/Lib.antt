pub mod Cuts
pub mod Held
pub mod KeyRules
pub mod PathLaws
pub mod PathLoop
pub mod Repeats
pub mod Rules
pub mod Stored
