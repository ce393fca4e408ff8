-- Read in this order.
pub mod Numbers  -- triples, selectors, entries and pairs from plain numbers
pub mod Plain  -- which of them seek and leap look for
