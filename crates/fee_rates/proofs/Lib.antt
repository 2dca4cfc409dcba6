pub mod CompactLaws
pub mod FeeLaws
pub mod TermsLaws
