-- Read in this order.
pub mod Kinds  -- the published number of each kind
pub mod Entries  -- what a catalogue says of a term number, and when that is proper
pub mod Records  -- which records spell an entry, and the first that does not
pub mod Listing  -- what a list of records means, and why it is refused
pub mod Calls  -- what the calls answer
pub mod Inlining  -- the entries that are computed from the number
pub mod Laws  -- what both catalogues say is proper
