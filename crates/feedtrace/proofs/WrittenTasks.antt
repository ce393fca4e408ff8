-- Laws of written tasks: the command that is written of a task is read as the task. Assumes nothing.
use Rattle.std.proofs.Common.{◌≡◌, ℕ, suc, ◌≤◌, ◌<◌, ◌++◌, codes, decimal, length, List, [], ◌∷◌, Some, Ok}
use Rattle.std.proofs.Common.{Option, take, drop, arith}
use Rattle.std.proofs.Common.{Result, refl, ap, ◌∙◌, eq-eqb}
use Rattle.std.proofs.lemmas.List.{length-drop}
use Rattle.triples.specs.declared.position.Position.{Position}
use Rattle.triples.specs.declared.selector.Selector.{Selector}
use Rattle.triples.specs.declared.triple.Triple.{Triple}
use Rattle.triples.specs.Order.{value_at}
use Rattle.triples.specs.Selectors.{any, floor, selector_of}
use Rattle.triples.specs.Text.{triple_text}
use Rattle.console.proofs.Words.{after_word-append, word-append}
use Rattle.console.specs.Words.{word_length}
use Rattle.filter.specs.Rows.{Row}
use Rattle.feedtrace.specs.declared.expected.Expected.{Expected}
use Rattle.feedtrace.specs.declared.part.Part.{Part}
use Rattle.feedtrace.specs.declared.part.Part.TheVariants.{Alternative, Block}
use Rattle.feedtrace.specs.declared.task.Task.{Task}
use Rattle.feedtrace.specs.declared.task.Task.TheVariants as task
use Rattle.feedtrace.specs.declared.verb.Verb.{Verb}
use Rattle.feedtrace.specs.declared.verb.Verb.TheVariants as verb
use Rattle.feedtrace.proofs.Fields.{first_number-last, first_number-space, first_number-spaced}
use Rattle.feedtrace.proofs.Fields.{first_row-all, first_row-spaced}
use Rattle.feedtrace.proofs.Fields.{first_position-space, first_triple-last, first_triple-space}
use Rattle.feedtrace.specs.Fields.{only}
use Rattle.feedtrace.specs.Forms.{block_form, filter_behind, filter_form, inverse_form, leap_form}
use Rattle.feedtrace.specs.Forms.{number_form, seek_form}
use Rattle.feedtrace.specs.Forms.{task_asked, task_fields, task_form, triple_form}
use Rattle.feedtrace.specs.Numerals.{most_number}
use Rattle.feedtrace.specs.Verbs.{verb_of}
use Rattle.feedtrace.specs.WrittenLines.{RowFits}
use Rattle.feedtrace.specs.WrittenTasks.{FilterFits, LeapFits, SelectorFits, TaskFits, TaskReadsBack}
use Rattle.feedtrace.specs.WrittenTasks.{filter_text, inverse_text, leap_text, position_text, seek_text}
use Rattle.feedtrace.specs.WrittenTasks.{selector_text, spaced_text, task_text}

-- where the word w of the verb v stands first, and what follows has the form of t, t is asked
task_asked-form : (w rest : List ℕ) (v : Verb) (t : Task) → word_length w ≡ length w → word_length rest ≡ 0
    → verb_of w ≡ Some v → task_form v rest ≡ Some t → task_asked (w ++ rest) ≡ Ok (Some t)
task_asked-form w rest v t one_word ends named form =
    let first = word-append w rest one_word ends in
    let left = after_word-append w rest one_word ends in
    rw (first, left, named, form) refl

-- the same of a task that is made of a number
task_asked-number : (w : List ℕ) (v : Verb) (make : ℕ → Task) (n : ℕ) → word_length w ≡ length w
    → verb_of w ≡ Some v → ((text : List ℕ) → task_fields v text ≡ number_form make text) → n ≤ most_number
    → task_asked (w ++ (codes " " ++ decimal n)) ≡ Ok (Some (make n))
task_asked-number w v make n one_word named form small =
    let rest = codes " " ++ decimal n in
    task_asked-form w rest v (make n) one_word refl named
    (ap only (form rest) ∙ rw (first_number-last n small) refl)

-- the same of a task that is made of a triple
task_asked-triple : (w : List ℕ) (v : Verb) (make : Triple → Task) (t : Triple) → word_length w ≡ length w
    → verb_of w ≡ Some v → ((text : List ℕ) → task_fields v text ≡ triple_form make text) → RowFits t
    → task_asked (w ++ (codes " " ++ triple_text t)) ≡ Ok (Some (make t))
task_asked-triple w v make t one_word named form small =
    let rest = codes " " ++ triple_text t in
    task_asked-form w rest v (make t) one_word refl named
    (ap only (form rest) ∙ rw (first_triple-last t small) refl)

-- the command of an inverse layer is read as the task
task_asked-inverse : (p q : ℕ) → p ≤ most_number → q ≤ most_number
    → task_asked (inverse_text p q) ≡ Ok (Some (task.Inverse p q))
task_asked-inverse p q small_p small_q =
    let inverse = codes " " ++ decimal q in
    let rest = codes " " ++ (decimal p ++ inverse) in
    let form : inverse_form rest ≡ Some (task.Inverse p q, []) =
    rw (first_number-space p inverse small_p refl, first_number-last q small_q) refl in
    task_asked-form (codes "inverse") rest verb.Inverse (task.Inverse p q) refl refl refl (ap only form)

-- the command of a seek is read as the task
task_asked-seek : (s : Selector) (t : Triple) → SelectorFits s → RowFits t
    → task_asked (seek_text s t) ≡ Ok (Some (task.Seek s t))
task_asked-seek s t wanted small =
    let from = codes " from " ++ triple_text t in
    let rest = codes " " ++ (selector_text s ++ from) in
    let form : seek_form rest ≡ Some (task.Seek s t, []) =
    rw (first_triple-space (floor s) from wanted refl, first_triple-last t small) refl in
    task_asked-form (codes "seek") rest verb.Seek (task.Seek s t) refl refl refl (ap only form)

-- the command of a leap is read as the task
task_asked-leap : (p : Position) (s : Selector) (n : ℕ) → LeapFits p s n
    → task_asked (leap_text p s n) ≡ Ok (Some (task.Leap p s n))
task_asked-leap p s n fits =
    let from = codes " from " ++ decimal n in
    let wanted = codes " " ++ (selector_text s ++ from) in
    let rest = codes " " ++ (position_text p ++ wanted) in
    let place = first_position-space p wanted refl in
    let selector = first_triple-space (floor s) from fits.0 refl in
    let free = eq-eqb (value_at p (floor s)) any fits.1 in
    let form : leap_form rest ≡ Some (task.Leap p s n, []) =
    rw (place, selector, first_number-last n fits.2, free) refl in
    task_asked-form (codes "leap") rest verb.Leap (task.Leap p s n) refl refl refl (ap only form)

-- where numbers are left behind a row, the filter is a block's
filter_behind-more : (a : ℕ) (text : List ℕ) (r : Row) (xs : List ℕ) → 0 < length xs
    → filter_behind a text r (spaced_text xs) ≡ block_form a text
filter_behind-more a text r [] more = absurd (omega arith)
filter_behind-more a text r (x ∷ xs) more = refl

-- the command of an alternative's filter is read as the task
task_asked-group : (a : ℕ) (r : Row) → FilterFits (Alternative a) r
    → task_asked (filter_text (Alternative a) r) ≡ Ok (Some (task.Filter (Alternative a) r))
task_asked-group a r fits =
    let rest = spaced_text (a ∷ r) in
    let number = first_number-spaced a r (fits.1 0 0 (omega arith)) in
    let values = first_row-all r fits.0 (λ k d less. fits.1 (suc k) d (omega arith)) in
    let form : filter_form rest ≡ Some (task.Filter (Alternative a) r, []) = rw (number, values) refl in
    task_asked-form (codes "filter") rest verb.Filter (task.Filter (Alternative a) r) refl refl refl
    (ap only form)

-- the command of a block's filter is read as the task
task_asked-block : (a b : ℕ) (r : Row) → FilterFits (Block a b) r
    → task_asked (filter_text (Block a b) r) ≡ Ok (Some (task.Filter (Block a b) r))
task_asked-block a b r fits =
    let rest = spaced_text (a ∷ b ∷ r) in
    let others = spaced_text (b ∷ r) in
    let alternative = first_number-spaced a (b ∷ r) (fits.1 0 0 (omega arith)) in
    let early = first_row-spaced (b ∷ r) (omega (arith, fits.0))
    (λ k d less. fits.1 (suc k) d (omega arith)) in
    let more = filter_behind-more a others (b ∷ take 15 r) (drop 15 r)
    (omega (arith, fits.0, length-drop 15 r)) in
    let block = first_number-spaced b r (fits.1 1 0 (omega arith)) in
    let values = first_row-all r fits.0 (λ k d less. fits.1 (suc (suc k)) d (omega arith)) in
    let form : filter_form rest ≡ Some (task.Filter (Block a b) r, []) =
    rw (alternative, early, more, block, values) refl in
    task_asked-form (codes "filter") rest verb.Filter (task.Filter (Block a b) r) refl refl refl
    (ap only form)

-- the command of a filter is read as the task
task_asked-filter : (p : Part) (r : Row) → FilterFits p r
    → task_asked (filter_text p r) ≡ Ok (Some (task.Filter p r))
task_asked-filter (Alternative a) r fits = task_asked-group a r fits
task_asked-filter (Block a b) r fits = task_asked-block a b r fits

-- the command of each task is read as the task
task_asked-task_text : (t : Task) → TaskFits t → task_asked (task_text t) ≡ Ok (Some t)
task_asked-task_text (task.RowStore n) fits =
    task_asked-number (codes "row-store") verb.RowStore task.RowStore n refl refl (λ _. refl) fits
task_asked-task_text (task.PropertyStore n) fits =
    task_asked-number (codes "property-store") verb.PropertyStore task.PropertyStore n refl refl (λ _. refl)
    fits
task_asked-task_text task.InlineCatalogue fits = refl
task_asked-task_text task.ListedCatalogue fits = refl
task_asked-task_text (task.MalformedTable v) fits = absurd fits
task_asked-task_text (task.Inverse p q) fits = task_asked-inverse p q fits.0 fits.1
task_asked-task_text task.Withdrawn fits = refl
task_asked-task_text (task.Withdraw t) fits =
    task_asked-triple (codes "withdraw") verb.Withdraw task.Withdraw t refl refl (λ _. refl) fits
task_asked-task_text (task.Restore t) fits =
    task_asked-triple (codes "restore") verb.Restore task.Restore t refl refl (λ _. refl) fits
task_asked-task_text (task.Seek s t) fits = task_asked-seek s t fits.0 fits.1
task_asked-task_text (task.Leap p s n) fits = task_asked-leap p s n fits
task_asked-task_text (task.Lookup n) fits =
    task_asked-number (codes "lookup") verb.Lookup task.Lookup n refl refl (λ _. refl) fits
task_asked-task_text (task.Scan s) fits =
    let make = λ (t : Triple). task.Scan (selector_of t) in
    task_asked-triple (codes "scan") verb.Scan make (floor s) refl refl (λ _. refl) fits
task_asked-task_text (task.Trace n) fits =
    task_asked-number (codes "trace") verb.Trace task.Trace n refl refl (λ _. refl) fits
task_asked-task_text (task.Filter p r) fits = task_asked-filter p r fits

-- the command of a task is read as the task, since it is read as the forms say
pub TaskReadsBack-from_said : (text : List ℕ) (r : Result (Option Task) Expected) → r ≡ task_asked text
    → TaskReadsBack text r
TaskReadsBack-from_said text r said t fits written =
    said ∙ ap task_asked written ∙ task_asked-task_text t fits
