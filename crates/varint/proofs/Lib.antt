-- Read in this order.
mod Groups  -- how a number falls into groups
pub mod Laws  -- what is written is read back, and nothing else is read
mod Reading  -- where a number ends, what it is worth, and whether it is in order
mod Writing  -- what a writer of one group after the other keeps
