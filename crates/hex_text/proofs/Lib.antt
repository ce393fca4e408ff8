-- Read in this order.
mod Reading  -- laws of reading a text
mod Digits  -- what the library says of digits
mod Words  -- a text stands for what its words make
mod Writing  -- laws of writing bytes
