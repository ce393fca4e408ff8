-- Read in this order.
pub mod Folds  -- the least of a list, found one by one
