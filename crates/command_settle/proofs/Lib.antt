pub mod AskedLaws
pub mod EndsLaws
pub mod FileStopLaws
pub mod FilesLaws
pub mod OutcomeLaws
pub mod PaymentLaws
pub mod SignedLaws
pub mod StopLaws
