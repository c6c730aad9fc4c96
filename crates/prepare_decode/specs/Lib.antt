pub mod Decoding
pub mod Encodings
