-- Read in this order.
pub mod Filters  -- lawful filters, and the truths of their nodes
pub mod Agreement  -- truths that agree up to a number
pub mod Lawful  -- the filters of a query's parts are lawful
pub mod Consistency  -- the truths of nodes are consistent, and the only ones
pub mod Calls  -- what the calls answer
pub mod Examples  -- the worked examples hold
