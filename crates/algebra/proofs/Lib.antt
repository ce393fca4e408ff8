-- Read in this order.
-- lists
pub mod Lists  -- All, flat_map, filter, totals and counts
pub mod Members  -- what is an element of what an operation makes
pub mod Ranges  -- the n numbers from a on
pub mod Ascents  -- lists of which each element is before the later ones
-- rows and patterns
pub mod Rows  -- the values of a row, and when two rows are the same
pub mod Patterns  -- triple patterns under rows that have the same values
pub mod Assignments  -- the rows that give listed variables values
pub mod Lexical  -- rows compared variable by variable, and the order of the assignments
pub mod Completions  -- the rows that give the open variables of patterns values
-- the walk
pub mod Listing  -- the answers of the walk, as plain lists
pub mod Fitting  -- which completions of a row a part fits
pub mod Marks  -- the answers among marks
pub mod Parts  -- the walk of one part answers what is listed of it
pub mod Walks  -- the walk of a query answers what is listed of it
pub mod Pruning  -- every term, and the look-ahead, keep the law
pub mod LookAhead  -- what the look-ahead asks of a pattern
-- counts
pub mod Merging  -- two rows compared and merged
pub mod Cardinalities  -- how often a row occurs in what the operators make
pub mod Joins  -- the join of a row with a basic graph pattern
pub mod Counts  -- the algebra counts as the listing
pub mod BasicPatterns  -- a basic graph pattern in words
-- the order
pub mod Owners  -- to which part a variable belongs
pub mod TotalOrder  -- of two answers that are not the same, one comes before the other
pub mod Blocks  -- what blocks do to the values of a row
pub mod ListingOrder  -- the listing ascends, and has nothing twice
-- the words
pub mod Upto  -- the parts reached, and a row with the values of those alone
pub mod RowsInWork  -- what the walk has of a row when its first blocks are done
pub mod ToWords  -- what is listed is an answer in words
pub mod FromWords  -- an answer in words is listed
pub mod Solutions  -- the solutions of an alternative in words
-- answers as bytes
pub mod Bits  -- the bits of a mask
pub mod Packings  -- answers as bytes
pub mod Bounds  -- how large the numbers of a query's answers are
-- what meets in the theorems
pub mod Numbered  -- the answers of each alternative
pub mod Completeness  -- the walk lists the answers
pub mod Examples  -- the worked examples hold
