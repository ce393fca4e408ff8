-- Read in this order.
pub mod Parts  -- a query as plain lists
pub mod Limits  -- the limits of a query
pub mod Codes  -- the numbers of places and of node kinds
pub mod Format  -- a query's bytes
pub mod Lawful  -- which queries there are
pub mod Shape  -- a query by its alternatives
pub mod Texts  -- parts of a query as text
pub mod Variables  -- sets of variables
pub mod Readers  -- how bytes are read
pub mod Grammar  -- what a reader makes of bytes
pub mod Drafts  -- a query while its parts come in
pub mod Building  -- what the builder knows
pub mod Scanning  -- what reading a part does
pub mod Theorems  -- what this crate proves
pub mod Reads  -- what reading a byte string answers
pub mod Writes  -- what writing does to a buffer
