pub mod Missing
pub mod Worth
