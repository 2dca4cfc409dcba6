pub mod EndsLaws
pub mod OutcomeLaws
pub mod SureLaws
