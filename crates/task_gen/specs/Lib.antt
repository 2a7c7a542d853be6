pub mod Delivery
pub mod Printed
pub mod ReadBack
pub mod Waiting
