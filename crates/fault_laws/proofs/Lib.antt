pub mod BumpFaults
pub mod FileFaults
pub mod OtherFaults
pub mod ReadBack
pub mod ShownLaws
pub mod TxFaults
pub mod WordLaws
