pub mod Numbers
pub mod Values
pub mod Wishes
pub mod Laws
