-- Read in this order.
pub mod Numerals  -- numbers with a sign, as decimal digits
pub mod Fields  -- what stands first in the rest of a line
pub mod Verbs  -- what the first word of a line says
pub mod Commands  -- the text of each command
pub mod Errors  -- the text of what was expected
pub mod Forms  -- the forms of tasks
pub mod Failures  -- what a task comes to, and a failure's line
pub mod Eithers  -- what one of two things stands for
pub mod Tables  -- what a table of either kind means
pub mod Layerings  -- what a table with its layers means
pub mod Books  -- what a catalogue of either kind says
pub mod TableLines  -- the lines of a table
pub mod WrittenLines  -- lines that are written of an element
pub mod WrittenTasks  -- commands that are written of a task
pub mod Drafts  -- a table while its lines come in
pub mod Currents  -- what the session ends as, where its store is lent
pub mod Tasks  -- what tasks answer, and what they leave
pub mod Judging  -- what is answered to the asking of a filter
pub mod Laying  -- what laying layers and withdrawing leave
pub mod Loads  -- what the end of a table answers
pub mod Outcomes  -- the text of what a task came to
pub mod Does  -- what each task does
pub mod Lines  -- what a line of a table answers
pub mod Sessions  -- what a session answers to a line
