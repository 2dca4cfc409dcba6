pub mod Extended
pub mod Keyed
pub mod Origins
pub mod Pairs
pub mod Placing
