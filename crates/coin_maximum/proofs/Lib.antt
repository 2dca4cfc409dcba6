pub mod MaximumLaws
pub mod MostLaws
