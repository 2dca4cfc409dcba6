pub mod KeepingLaws
pub mod PackedLaws
