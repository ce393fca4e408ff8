-- Commands that are written of a task in its form, and that they are read as the task. Assumes nothing.
use Rattle.std.specs.Prelude.{◌≡◌, ℕ, ◌≤◌, List, [], ◌∷◌, ◌++◌, length, Some, Ok, Option, Result, codes}
use Rattle.std.specs.Prelude.{decimal}
use Rattle.std.specs.List.{All}
use Rattle.triples.specs.declared.position.Position.{Position}
use Rattle.triples.specs.declared.position.Position.TheVariants.{Subject, Property, Object}
use Rattle.triples.specs.declared.selector.Selector.{Selector}
use Rattle.triples.specs.declared.triple.Triple.{Triple}
use Rattle.triples.specs.Order.{value_at}
use Rattle.triples.specs.Selectors.{any, floor}
use Rattle.triples.specs.Text.{triple_text}
use Rattle.filter.specs.Rows.{Row}
use Rattle.feedtrace.specs.declared.expected.Expected.{Expected}
use Rattle.feedtrace.specs.declared.part.Part.{Part}
use Rattle.feedtrace.specs.declared.part.Part.TheVariants.{Alternative, Block}
use Rattle.feedtrace.specs.declared.task.Task.{Task}
use Rattle.feedtrace.specs.declared.task.Task.TheVariants as task
use Rattle.feedtrace.specs.Numerals.{most_number}
use Rattle.feedtrace.specs.WrittenLines.{RowFits}

-- the name of a position
abbrev pub position_text : Position → List ℕ
position_text Subject = codes "subject"
position_text Property = codes "property"
position_text Object = codes "object"

-- the entries of s as decimal numbers, one space between two
abbrev pub selector_text : Selector → List ℕ
selector_text s = triple_text (floor s)

-- inverse, p and q
abbrev pub inverse_text : ℕ → ℕ → List ℕ
inverse_text p q = codes "inverse " ++ (decimal p ++ (codes " " ++ decimal q))

-- seek, the entries of s, from, and the numbers of t
abbrev pub seek_text : Selector → Triple → List ℕ
seek_text s t = codes "seek " ++ (selector_text s ++ (codes " from " ++ triple_text t))

-- leap, the name of p, the entries of s, from, and n
abbrev pub leap_text : Position → Selector → ℕ → List ℕ
leap_text p s n =
    codes "leap " ++ (position_text p ++ (codes " " ++ (selector_text s ++ (codes " from " ++ decimal n))))

-- the numbers of xs as decimal numbers, a space before each
abbrev pub spaced_text : List ℕ → List ℕ
spaced_text [] = []
spaced_text (x ∷ xs) = codes " " ++ (decimal x ++ spaced_text xs)

-- the numbers of a part, and behind them the values of r
abbrev pub filter_numbers : Part → Row → List ℕ
filter_numbers (Alternative a) r = a ∷ r
filter_numbers (Block a b) r = a ∷ b ∷ r

-- filter, the numbers of p, and the values of r
abbrev pub filter_text : Part → Row → List ℕ
filter_text p r = codes "filter" ++ spaced_text (filter_numbers p r)

-- the command that asks the task; a malformed table has none, and is given nothing
abbrev pub task_text : Task → List ℕ
task_text (task.RowStore n) = codes "row-store " ++ decimal n
task_text (task.PropertyStore n) = codes "property-store " ++ decimal n
task_text task.InlineCatalogue = codes "catalogue inline"
task_text task.ListedCatalogue = codes "catalogue listed"
task_text (task.MalformedTable v) = []
task_text (task.Inverse p q) = inverse_text p q
task_text task.Withdrawn = codes "withdrawn"
task_text (task.Withdraw t) = codes "withdraw " ++ triple_text t
task_text (task.Restore t) = codes "restore " ++ triple_text t
task_text (task.Seek s t) = seek_text s t
task_text (task.Leap p s n) = leap_text p s n
task_text (task.Lookup n) = codes "lookup " ++ decimal n
task_text (task.Scan s) = codes "scan " ++ selector_text s
task_text (task.Trace n) = codes "trace " ++ decimal n
task_text (task.Filter p r) = filter_text p r

-- the entries of s have 32 bits
abbrev pub SelectorFits : Selector → Type 0
SelectorFits s = RowFits (floor s)

-- the entries of s and the number n have 32 bits, and s has any at the position p
abbrev pub LeapFits : Position → Selector → ℕ → Type 0
LeapFits p s n = SelectorFits s × (value_at p (floor s) ≡ any) × (n ≤ most_number)

-- r has a value for each of the sixteen variables, and the numbers of p and of r have 32 bits
abbrev pub FilterFits : Part → Row → Type 0
FilterFits p r = (length r ≡ 16) × All (λ n. n ≤ most_number) (filter_numbers p r)

-- the numbers of the task have 32 bits, a leap's selector has any at its position, a filter's row has
-- sixteen values, and it is no malformed table
abbrev pub TaskFits : Task → Type 0
TaskFits (task.RowStore n) = n ≤ most_number
TaskFits (task.PropertyStore n) = n ≤ most_number
TaskFits task.InlineCatalogue = Unit {0}
TaskFits task.ListedCatalogue = Unit {0}
TaskFits (task.MalformedTable v) = ⊥
TaskFits (task.Inverse p q) = (p ≤ most_number) × (q ≤ most_number)
TaskFits task.Withdrawn = Unit {0}
TaskFits (task.Withdraw t) = RowFits t
TaskFits (task.Restore t) = RowFits t
TaskFits (task.Seek s t) = SelectorFits s × RowFits t
TaskFits (task.Leap p s n) = LeapFits p s n
TaskFits (task.Lookup n) = n ≤ most_number
TaskFits (task.Scan s) = SelectorFits s
TaskFits (task.Trace n) = n ≤ most_number
TaskFits (task.Filter p r) = FilterFits p r

-- if t fits and text is its command, t is what is read of it
abbrev pub TaskReadsBack : List ℕ → Result (Option Task) Expected → Type 0
TaskReadsBack text r = (t : Task) → TaskFits t → text ≡ task_text t → r ≡ Ok (Some t)
