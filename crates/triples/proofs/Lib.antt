-- Read in this order.
pub mod Lists  -- elements read from a list
pub mod Order  -- laws of the order of triples
pub mod Selectors  -- what a selector and one seek tell
pub mod Seeks  -- laws of seek and leap
pub mod Ranks  -- the triple right behind another, and a rank that rises there
pub mod Unions  -- two sets taken together
pub mod Meaning  -- laws of being an element of a list
pub mod FirstMatches  -- the first element that matches
pub mod Finding  -- laws of searching an ordered list
pub mod Joins  -- answers put together from those about parts
pub mod Leaps  -- laws of leaping over an ordered list
pub mod Ascents  -- where a list falls first
pub mod Lexical  -- what the derived orders say of a list
pub mod Refusals  -- a rejection by its parts
pub mod Rows  -- what an accepted table is
pub mod Entries  -- laws of directories
pub mod Sections  -- laws of the pairs of entries
pub mod Equality  -- why equal tables mean the same
