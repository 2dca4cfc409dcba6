pub mod Given
pub mod JobPayment
pub mod Looked
pub mod Opening
pub mod Ready
