mod MoneyLaws
mod PaymentLaws
pub mod RunLaws
