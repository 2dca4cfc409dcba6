pub mod CompactSize
pub mod Cursor
pub mod Decimal
pub mod Least
pub mod Outpoints
pub mod Parsing
pub mod Writer
