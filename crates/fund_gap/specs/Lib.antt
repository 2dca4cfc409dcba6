pub mod Gap
pub mod Share
pub mod Words
