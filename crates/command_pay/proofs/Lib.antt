mod ConsolidatedLaws
pub mod MoneyLaws
mod PaymentLaws
pub mod Pieces
mod ReadLaws
pub mod RunLaws
mod SavingLaws
mod SharedMoneyLaws
mod Shown
mod TakenLaws
