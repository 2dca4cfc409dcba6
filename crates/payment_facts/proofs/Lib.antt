pub mod AnySteps
pub mod HeightSteps
pub mod LeftSteps
pub mod PendingSteps
pub mod PricedFacts
