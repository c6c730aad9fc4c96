pub mod Endings
pub mod Looking
pub mod Replies
