pub mod AmountLaws
pub mod MaxLaws
