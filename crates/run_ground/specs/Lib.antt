pub mod Looking
pub mod Seeking
