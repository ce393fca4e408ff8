-- Read in this order.
mod Numerals  -- laws of numbers with a sign
mod Fields  -- laws of what stands first in the rest of a line
mod Rows  -- what a reader of a row's values keeps
mod WrittenLines  -- laws of lines that are written of an element
mod WrittenTasks  -- laws of commands that are written of a task
mod Keeping  -- what tables and layers keep
mod Tasks  -- laws of tasks
mod Laying  -- laws of changing a store
mod Outcomes  -- laws of writing the lines of a list
