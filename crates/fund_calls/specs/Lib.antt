pub mod Call
pub mod Commands
pub mod Given
pub mod Names
pub mod Once
pub mod Output
pub mod Results
