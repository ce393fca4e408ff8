-- Read in this order.
pub mod Seeks  -- stores that mean the same
pub mod Scans  -- a scan goes on and ends
pub mod Lists  -- numbers that stand in a list once
pub mod Marks  -- what is gathered goes on, and is put in order
pub mod Levels  -- a visit of one term goes on and ends
pub mod Steps  -- the levels of a trace go on and end
