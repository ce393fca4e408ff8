-- Read in this order.
pub mod Patterns  -- triple patterns under a row
pub mod Algebra  -- solutions, and what joins them
pub mod Answers  -- what a query's answers are
pub mod Order  -- in which order answers come
pub mod Admissions  -- which values a pruner may leave out
pub mod Walk  -- the walk, mark by mark
pub mod Words  -- a query's answers, without the algebra
pub mod Packing  -- an answer as bytes
pub mod Theorems  -- what this crate proves
pub mod Deliveries  -- a small store, and queries over it by their bytes
pub mod Examples  -- worked examples over it
