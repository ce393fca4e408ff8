-- Read in this order.
pub mod Encode  -- how a number is written
pub mod Decode  -- what the front of a byte string says
pub mod Ending  -- where a number ends
pub mod Calls  -- what read and write answer
pub mod Theorems  -- what this crate proves
