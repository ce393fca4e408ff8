-- Read in this order.
pub mod Numbers  -- the published number of each refusal
pub mod Texts  -- a refusal as text
