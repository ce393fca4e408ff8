-- The walk of a query answers the rows that the listing has, in its order. Assumes nothing.
--     walk_is_answers          under a lawful admission the walk answers what is listed of the query
--     same_under_all_pruners   so what a pruner admits changes no answer
use Rattle.std.proofs.Common.{◌≡◌, ℕ, ◌+◌, true, List, [], ◌∷◌, ◌++◌, length, refl, sym, ap, ◌∙◌}
use Rattle.std.proofs.lemmas.List.{append-nil}
use Rattle.std.proofs.lemmas.List.Concat.{flat_map_single}
use Rattle.std.specs.List.{filter, flat_map, AllByRecursion}
use Rattle.catalogue.specs.Entries.{Entry}
use Rattle.query.specs.declared.pattern.TriplePattern.{TriplePattern}
use Rattle.query.specs.Limits.{variables}
use Rattle.query.specs.Parts.{Part, Group}
use Rattle.triples.specs.Meaning.{Meaning}
use Rattle.filter.specs.Rows.{Row}
use Rattle.filter.specs.Filters.{passes}
use Rattle.algebra.specs.Patterns.{blank, stored, completions}
use Rattle.algebra.specs.Answers.{Answer, numbered}
use Rattle.algebra.specs.Admissions.{Admission, Completes, Lawful}
use Rattle.algebra.specs.Walk.{answer, answers, follow, otherwise, walk_part, walk_block, walk_blocks}
use Rattle.algebra.specs.Walk.{walk_group, walk_from, walk}
use Rattle.algebra.specs.Theorems.{SameUnderAllPruners}
use Rattle.algebra.proofs.Lists.{all-weaker, all-filter, flat_map-same, filter-flat_map, filter-true}
use Rattle.algebra.proofs.Completions.{all-completions}
use Rattle.algebra.proofs.Listing.{fitting, or_itself, extended, rows_of, answers_of_from, answers_of}
use Rattle.algebra.proofs.Fitting.{all-or_itself, all-fitting}
use Rattle.algebra.proofs.Marks.{answers-append, answers-follow, answers-answer_if}
use Rattle.algebra.proofs.Parts.{answers-walk_part}

-- rows of sixteen values

-- the row has sixteen values
abbrev Long : Row → Type 0
Long r = length r ≡ variables

all_long : (m : Meaning) (ts : List TriplePattern) (r : Row) → Long r
    → AllByRecursion Long (completions m.top ts r)
all_long m ts r long =
    all-weaker (Completes m.top ts r) Long (λ s c. c.long ∙ long) (completions m.top ts r)
    (all-completions m.top ts r long)

-- answers

-- the fits, or where there are none the row itself
answers-otherwise : (r : Row) (rows : List Row) → rows ++ answers (otherwise r rows) ≡ or_itself r rows
answers-otherwise r [] = refl
answers-otherwise r (s ∷ rows) = append-nil (s ∷ rows)

module _ (m : Meaning) (e : ℕ → Entry) (admits : Admission) (law : Lawful m admits) where
  answers-walk_block : (b : Part) (r : Row) → Long r
      → answers (walk_block m e admits b r) ≡ or_itself r (fitting m (passes e b.filter) b.triples r)
  answers-walk_block b r long =
      let marks = walk_part m admits (passes e b.filter) b.triples r in
      answers-append marks (otherwise r (answers marks))
      ∙ answers-otherwise r (answers marks)
      ∙ ap (or_itself r) (answers-walk_part m admits law (passes e b.filter) b.triples r long)

  answers-walk_blocks : (g : Group) (bs : List Part) (r : Row) → Long r
      → answers (walk_blocks m e admits g bs r) ≡ filter (passes e g.filter) (extended m e bs r)
  answers-walk_blocks g [] r long = answers-answer_if (passes e g.filter r) r
  answers-walk_blocks g (b ∷ bs) r long =
      let on = walk_blocks m e admits g bs in
      let fits = fitting m (passes e b.filter) b.triples r in
      answers-follow on (walk_block m e admits b r)
      ∙ ap (flat_map (λ s. answers (on s))) (answers-walk_block b r long)
      ∙ flat_map-same (λ s. answers (on s)) (λ s. filter (passes e g.filter) (extended m e bs s))
      (or_itself r fits)
      (all-weaker Long (λ s. answers (on s) ≡ filter (passes e g.filter) (extended m e bs s))
      (answers-walk_blocks g bs) (or_itself r fits)
      (all-or_itself Long r fits long
      (all-fitting Long m (passes e b.filter) b.triples r (all_long m b.triples r long))))
      ∙ sym (filter-flat_map (passes e g.filter) (extended m e bs) (or_itself r fits))

  answers-walk_group : (g : Group) → answers (walk_group m e admits g) ≡ rows_of m e g
  answers-walk_group g =
      let on = walk_blocks m e admits g g.blocks in
      let starts = filter (stored m g.required) (completions m.top g.required blank) in
      answers-follow on (walk_part m admits (λ _. true) g.required blank)
      ∙ ap (flat_map (λ s. answers (on s)))
      (answers-walk_part m admits law (λ _. true) g.required blank refl ∙ filter-true starts)
      ∙ flat_map-same (λ s. answers (on s)) (λ s. filter (passes e g.filter) (extended m e g.blocks s)) starts
      (all-weaker Long (λ s. answers (on s) ≡ filter (passes e g.filter) (extended m e g.blocks s))
      (answers-walk_blocks g g.blocks) starts
      (all-filter Long (stored m g.required) (completions m.top g.required blank)
      (all_long m g.required blank refl)))
      ∙ sym (filter-flat_map (passes e g.filter) (extended m e g.blocks) starts)

  answers-walk_from : (a : ℕ) (gs : List Group)
      → answers (walk_from m e admits a gs) ≡ answers_of_from m e a gs
  answers-walk_from a [] = refl
  answers-walk_from a (g ∷ gs) =
      let as_answer : Row → Answer = λ r. record { alternative = a; row = r } in
      let on = λ (r : Row). answer (as_answer r) ∷ [] in
      answers-append (follow on (walk_group m e admits g)) (walk_from m e admits (a + 1) gs)
      ∙ ap (λ rest. rest ++ answers (walk_from m e admits (a + 1) gs))
      (answers-follow on (walk_group m e admits g)
      ∙ flat_map_single as_answer (answers (walk_group m e admits g))
      ∙ ap (numbered a) (answers-walk_group g))
      ∙ ap (λ rest. numbered a (rows_of m e g) ++ rest) (answers-walk_from (a + 1) gs)

-- the walk of a query answers what is listed of it
pub walk_is_answers : (m : Meaning) (e : ℕ → Entry) (admits : Admission) (q : List Group) → Lawful m admits
    → answers (walk m e admits q) ≡ answers_of m e q
walk_is_answers m e admits q law = answers-walk_from m e admits law 0 q

-- what a lawful admission admits changes no answer
pub same_under_all_pruners : (m : Meaning) (e : ℕ → Entry) (q : List Group) → SameUnderAllPruners m e q
same_under_all_pruners m e q one other law like =
    walk_is_answers m e one q law ∙ sym (walk_is_answers m e other q like)
