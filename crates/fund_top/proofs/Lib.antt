pub mod CommandEnds
pub mod EndsLaws
pub mod GoesOnLaws
pub mod KeptLaws
pub mod OutcomeLaws
pub mod RunLaws
pub mod SureLaws
pub mod WordLaws
