pub mod Draw
pub mod KeptPlaces
pub mod Laws
pub mod Order
