pub mod KnownSteps
pub mod ListSteps
pub mod MissingLaws
pub mod OnceSteps
pub mod Positions
pub mod WorthSteps
