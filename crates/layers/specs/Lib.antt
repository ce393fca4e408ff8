-- Read in this order.
pub mod Sets  -- lists in which no triple stands twice
pub mod Members  -- the triples of a small set
pub mod Withdrawals  -- a store without some triples, and how these change
pub mod Histories  -- what can be withdrawn after a number of calls
pub mod Inverses  -- a store with the inverse of a property
pub mod Inverting  -- what making such a layer answers
pub mod Turns  -- how a turned triple is asked for
pub mod Soundness  -- a layer over a sound store is sound
