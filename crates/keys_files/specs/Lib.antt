pub mod Keyed
pub mod KeysFile
pub mod Words
