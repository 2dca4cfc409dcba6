pub mod Calls
pub mod JobFile
pub mod JobTables
pub mod Reported
pub mod Saving
pub mod Tables
