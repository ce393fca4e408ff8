-- Read in this order.
pub mod Lawful  -- laws of tests over lists
pub mod Limits  -- what keeping a limit says
pub mod Readers  -- laws of one number and what it stands for
pub mod Numbers  -- a number read at a place
pub mod Sequences  -- laws of parts read one behind the other
pub mod KindNumbers  -- kinds of nodes and their numbers
pub mod Codecs  -- places, triples and nodes, each with its writing
pub mod Parts  -- lists, blocks and alternatives, each with its writing
pub mod Sets  -- sets of variables
pub mod Drafts  -- what is kept while a query is read
pub mod Building  -- what the builder knows
pub mod Loops  -- items read one by one
pub mod Scans  -- what has come in so far
pub mod Verdicts  -- what follows for whole byte strings
pub mod Writes  -- bytes placed in a buffer
pub mod Sound  -- what writing asks of a lawful query
pub mod Counts  -- how much a lawful query holds
pub mod Outcomes  -- what follows for reading
