pub mod Advised
pub mod Kept
