pub mod Partial
pub mod Answer
pub mod Agree
pub mod Laws
