-- Read in this order.
pub mod Order  -- how triples compare
pub mod Succession  -- the triple right behind another
pub mod Selectors  -- which triples a selector matches
pub mod Meaning  -- what a store stands for
pub mod Seeks  -- what seek and leap answer
pub mod Text  -- a triple as text
pub mod Matching  -- from one match to the next
pub mod Unions  -- two sets taken together
pub mod Ascent  -- strictly ascending lists
pub mod Tables  -- lists of elements that stand for triples
pub mod Finding  -- where a start stands in an ordered list
pub mod Rows  -- what a row store is loaded from
pub mod Directory  -- the table of a property store
pub mod Laws  -- why lists and tables are sound
pub mod Sections  -- what a property store is loaded from
pub mod Spans  -- which entries a selector can match
pub mod Loads  -- what loading answers
pub mod Theorems  -- what this crate proves of both kinds of store
