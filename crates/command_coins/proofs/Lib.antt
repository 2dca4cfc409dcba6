pub mod EndsLaws
pub mod LinesLaws
pub mod ListingLaws
