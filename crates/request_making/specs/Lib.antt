pub mod Asked
pub mod Printed
pub mod Spelled
pub mod Spelling
pub mod Units
pub mod Written
