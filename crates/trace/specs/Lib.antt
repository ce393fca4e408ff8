-- Read in this order.
pub mod Scans  -- the triples that match
pub mod Steps  -- what a term reaches, and in which order
pub mod Marks  -- numbers gathered and marked
pub mod Levels  -- what one level of a trace adds
