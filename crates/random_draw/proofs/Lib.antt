pub mod Fresh
pub mod KeptLaws
pub mod LawsOfDraws
pub mod LawsOfOrders
pub mod OrderLaws
pub mod Sorting
pub mod Trimming
