pub mod Front
pub mod Loading
