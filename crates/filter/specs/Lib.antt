-- Read in this order.
pub mod Rows  -- a row of sixteen values
pub mod Truths  -- three truth values
pub mod Comparing  -- how two terms compare
pub mod Terms  -- terms as they are held
pub mod Filters  -- the truth of a filter on a row
pub mod Comparisons  -- comparisons read off a catalogue
pub mod Calls  -- what the calls answer
pub mod Theorems  -- what this crate proves
pub mod Examples  -- each rule by an example
