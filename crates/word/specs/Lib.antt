-- Bits of words, and arithmetic modulo 2 ^ 64. Assumes nothing.
pub mod Bit
pub mod Bits
pub mod Combine
pub mod Wrap
