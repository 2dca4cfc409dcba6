pub mod Judgements
pub mod Limits
pub mod Refusals
