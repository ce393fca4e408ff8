-- Read in this order.
pub mod Sets  -- laws of lists in which no triple stands twice
pub mod Leaps  -- what a leap tells of a later question
pub mod Withdrawals  -- laws of a store without some triples
pub mod Histories  -- what is withdrawn is in the store below
pub mod Searches  -- a search for a triple that is not left out
pub mod Turns  -- how turned triples are found
