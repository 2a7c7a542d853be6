pub mod Few
pub mod Fronts
pub mod Growth
pub mod ReadingBack
pub mod TextEnds
