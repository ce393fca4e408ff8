-- Read in this order.
mod Folds  -- what folding bytes answers
mod Numerals  -- laws of numbers
pub mod Decimals  -- a number is read of its numerals, and of nothing else
pub mod Words  -- laws of words
mod Requests  -- laws of requests
