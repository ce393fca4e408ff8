-- Read in this order.
pub mod Words  -- the words of a line
pub mod Numerals  -- numbers, as decimal digits
pub mod Failures  -- which failure an error is
pub mod Requests  -- what a line asks
pub mod Answers  -- the line of an answer, and that of a failure
pub mod Sessions  -- what a session's step answers
