pub mod InputLaws
pub mod MapLaws
pub mod OnlyLaws
pub mod StackLaws
pub mod TextLaws
pub mod WholeLaws
