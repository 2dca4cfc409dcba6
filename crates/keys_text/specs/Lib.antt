pub mod Entries
pub mod Found
pub mod Judging
pub mod KeysRules
pub mod KeysText
pub mod Paths
pub mod PlainKeys
pub mod Stores
