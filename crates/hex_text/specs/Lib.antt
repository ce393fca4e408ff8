-- Read in this order.
pub mod Characters  -- the space and the digits
pub mod Writing  -- the text of bytes
pub mod Reading  -- what a text stands for
pub mod Words  -- the words of a text, and the bytes that they make
pub mod Calls  -- what parse answers
pub mod Theorems  -- what this crate proves
