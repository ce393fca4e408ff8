-- What this crate proves of every query, store and catalogue. Assumes nothing.
use Rattle.std.specs.Prelude.{◌≡◌, ℕ, ◌+◌, ◌<◌, ◌≤◌, Bool, true, cond, not, ◌&&◌, ◌||◌, List}
use Rattle.std.specs.Prelude.{◌⊎◌, ◌∷◌, length, slice_index_or, ◌≢◌, Some}
use Rattle.std.specs.List.{filter, flat_map, list_all, AllByRecursion}
use Rattle.varint.specs.Encode.{largest}
use Rattle.catalogue.specs.Entries.{Entry}
use Rattle.query.specs.declared.pattern.TriplePattern.{TriplePattern}
use Rattle.query.specs.Lawful.{mentions, total}
use Rattle.query.specs.Limits.{variables}
use Rattle.query.specs.Parts.{Group}
use Rattle.triples.specs.declared.triple.Triple.{Triple}
use Rattle.triples.specs.Meaning.{Meaning, Term, largest_top}
use Rattle.filter.specs.Rows.{Row, none, value, has_value}
use Rattle.algebra.specs.Patterns.{blank, with_value, stored, Stored}
use Rattle.algebra.specs.Algebra.{bgp, compatible, merge, join, diff, union, left_join}
use Rattle.algebra.specs.Answers.{Answer, solutions, answers_to, same_row, times, times_answered}
use Rattle.algebra.specs.Order.{Precedes, Ascending, no_group, parts_of}
use Rattle.algebra.specs.Admissions.{Admission, Completes, Lawful, every_term, look_ahead, Matches}
use Rattle.algebra.specs.Walk.{try, answers, answer_if, admitted, walk_part, walk}
use Rattle.algebra.specs.Words.{Answered}
use Rattle.algebra.specs.Packing.{mask, bit, packed, unpacked, Bounded}
use Rattle.algebra.specs.Packing.{highest_alternative, most_packed}

-- the walk lists the query's answers: each as often as the algebra counts it, in the order, none twice
pub record ListsAll (m : Meaning) (e : ℕ → Entry) (q : List Group) (admits : Admission) : Type 0 where
  pub as_often : (a : Answer)
      → times_answered a (answers (walk m e admits q)) ≡ times_answered a (answers_to m e q)
  pub in_order : Ascending (Precedes q) (answers (walk m e admits q))
  pub once : (a : Answer) → times_answered a (answers (walk m e admits q)) ≤ 1

-- whatever lawful admission is asked, the walk lists the query's answers
abbrev pub WalkListsAnswers : Meaning → (ℕ → Entry) → List Group → Type 0
WalkListsAnswers m e q = (admits : Admission) → Lawful m admits → ListsAll m e q admits

-- the list of answers is the same under any two lawful admissions
abbrev pub SameUnderAllPruners : Meaning → (ℕ → Entry) → List Group → Type 0
SameUnderAllPruners m e q = (one other : Admission) → Lawful m one → Lawful m other
    → answers (walk m e one q) ≡ answers (walk m e other q)

-- a row is a solution of an alternative exactly if what the words ask of an answer holds of it, and then once
abbrev pub SolutionsInWords : Meaning → (ℕ → Entry) → List Group → Type 0
SolutionsInWords m e q = (a : ℕ) (r : Row) → a < length q
    → (Answered m e (slice_index_or q a no_group) r
    → times r (solutions m e (slice_index_or q a no_group)) ≡ 1)
    × (0 < times r (solutions m e (slice_index_or q a no_group))
    → Answered m e (slice_index_or q a no_group) r)

-- a row is an answer of an alternative as often as it is among that alternative's solutions, which is at most
-- once; no answer has the number of an alternative that is not there
pub record OnceInEach (m : Meaning) (e : ℕ → Entry) (q : List Group) : Type 0 where
  pub each : (a : Answer) → a.alternative < length q
      → times_answered a (answers_to m e q)
      ≡ times a.row (solutions m e (slice_index_or q a.alternative no_group))
  pub once : (a : Answer) → times_answered a (answers_to m e q) ≤ 1
  pub beyond : (a : Answer) → length q ≤ a.alternative → times_answered a (answers_to m e q) ≡ 0

-- the order of a query's answers: none comes before itself; what comes before one that comes before another
-- comes before that other; and two answers are the same, or one of them comes before the other
pub record OrderIsTotal (m : Meaning) (e : ℕ → Entry) (q : List Group) : Type 0 where
  pub never : (a : Answer) → Precedes q a a → ⊥
  pub onward : (a b c : Answer) → Precedes q a b → Precedes q b c → Precedes q a c
  pub either : (a b : Answer) → Answered m e (slice_index_or q a.alternative no_group) a.row
      → Answered m e (slice_index_or q b.alternative no_group) b.row
      → (a ≡ b) ⊎ (Precedes q a b ⊎ Precedes q b a)

-- trying every term, and looking ahead, leave out no value that the law protects
abbrev pub PrunersLawful : Type 0
PrunersLawful = (m : Meaning) → Lawful m (every_term m) × Lawful m (look_ahead m)

-- some triple of the store is one that the pattern can become under the row
abbrev pub Matched : Meaning → Row → TriplePattern → Type 0
Matched m r t = (u : Triple) × (m.has u ≡ true) × Matches r t u

-- looking ahead admits a value for the part exactly if it is a term, and under the row with it each triple of
-- the part, by itself, is matched by a triple of the store
abbrev pub AdmitsMatched : Meaning → List TriplePattern → Type 0
AdmitsMatched m ts = (r : Row) (v x : ℕ) → length r ≡ variables
    → (look_ahead m ts r v x ≡ true → Term m.top x × AllByRecursion (Matched m (with_value r v x)) ts)
    × (Term m.top x → AllByRecursion (Matched m (with_value r v x)) ts → look_ahead m ts r v x ≡ true)

-- so it does for each part of the query
abbrev pub LookAheadInWords : Meaning → List Group → Type 0
LookAheadInWords m q = AllByRecursion (AdmitsMatched m) (flat_map parts_of q)

-- v is the lowest variable of the patterns that has no value in the row
pub record LowestOpen (ts : List TriplePattern) (r : Row) (v : ℕ) : Type 0 where
  pub inside : v < variables
  pub held : mentions v ts ≡ true
  pub valueless : value r v ≡ none
  pub first : (w : ℕ) → w < v → mentions w ts ≡ true → value r w ≢ none

-- the part's walk takes the lowest variable without a value: each admitted value gives a try, and then the
-- part's walk from the row with it; where all have values, the row is an answer or the walk is empty
pub record TakesTheLowest (m : Meaning) (admits : Admission) (test : Row → Bool) (ts : List TriplePattern)
    (r : Row) : Type 0 where
  pub more : (v : ℕ) → LowestOpen ts r v → walk_part m admits test ts r
      ≡ flat_map (λ x. try v x ∷ walk_part m admits test ts (with_value r v x)) (admitted m admits ts r v)
  pub done : ((v : ℕ) → v < variables → mentions v ts ≡ true → value r v ≢ none)
      → walk_part m admits test ts r ≡ answer_if (stored m ts r && test r) r

-- so it does for every part and every row of sixteen values
abbrev pub WalkTakesTheLowest : Type 0
WalkTakesTheLowest =
    (m : Meaning) (admits : Admission) (test : Row → Bool) (ts : List TriplePattern) (r : Row)
    → length r ≡ variables → TakesTheLowest m admits test ts r

-- a basic graph pattern has each row that gives its variables, and no others, values from 1 to the top under
-- which its triples are all in the store, and has it once
abbrev pub BasicPatterns : Type 0
BasicPatterns = (m : Meaning) (ts : List TriplePattern) (r : Row)
    → (Completes m.top ts blank r → Stored m ts r → times r (bgp m ts) ≡ 1)
    × (0 < times r (bgp m ts) → Completes m.top ts blank r × Stored m ts r)

-- how often a row occurs in what the operators make, as the recommendation counts: in a filter as before or
-- never, in a union by the sum, in a join by the pairs that merge to it, in a difference as before or never,
-- in a left join by the sum of filtered join and difference
pub record Cardinalities (test : Row → Bool) (left right : List Row) (r : Row) : Type 0 where
  pub filtered : times r (filter test left) ≡ cond (test r) (times r left) 0
  pub united : times r (union left right) ≡ times r left + times r right
  pub joined : times r (join left right)
      ≡ total (λ s. total (λ t. cond (compatible s t && same_row r (merge s t)) 1 0) right) left
  pub lacking : times r (diff test left right)
      ≡ cond (list_all (λ s. not (compatible r s) || not (test (merge r s))) right) (times r left) 0
  pub left_joined : times r (left_join test left right)
      ≡ times r (filter test (join left right)) + times r (diff test left right)

-- these counts, for all rows and tests
abbrev pub CountedAsDefined : Type 0
CountedAsDefined = (test : Row → Bool) (left right : List Row) (r : Row)
    → Cardinalities test left right r

-- every row is as often among the one as among the other
abbrev pub AsOften : List Row → List Row → Type 0
AsOften rows others = (r : Row) → times r rows ≡ times r others

-- what the operators make of left and right has every row as often as what they make of the others
pub record MadeAsOften (test : Row → Bool) (left right other_left other_right : List Row) : Type 0 where
  pub filtered : AsOften (filter test left) (filter test other_left)
  pub united : AsOften (union left right) (union other_left other_right)
  pub joined : AsOften (join left right) (join other_left other_right)
  pub lacking : AsOften (diff test left right) (diff test other_left other_right)
  pub left_joined : AsOften (left_join test left right) (left_join test other_left other_right)

-- of the rows that the operators take, only counts matter, and neither their order nor how they came about
abbrev pub OnlyCountsMatter : Type 0
OnlyCountsMatter = (test : Row → Bool) (left right other_left other_right : List Row)
    → AsOften left other_left → AsOften right other_right
    → MadeAsOften test left right other_left other_right

-- what the bytes of answers say, and how many there are
pub record BytesSayTheAnswer (m : Meaning) (e : ℕ → Entry) (q : List Group) : Type 0 where
  -- bit v of a row's mask is 1 exactly if variable v has a value
  pub bits : (r : Row) (v : ℕ) → v < variables → bit (mask r) v ≡ has_value r v
  -- an answer whose numbers have at most 32 bits is read back from its bytes
  pub read_back : (a : Answer) → Bounded largest largest a → unpacked (packed a) ≡ Some a
  -- no two such answers have the same bytes
  pub apart : (a b : Answer) → Bounded largest largest a → Bounded largest largest b
      → packed a ≡ packed b → a ≡ b
  -- an answer of an alternative below 8 and of terms, or no values, takes at most 52 bytes
  pub short : (a : Answer) → Bounded highest_alternative largest_top a → length (packed a) ≤ most_packed
  -- such is every answer of the query
  pub small : (a : Answer) → 0 < times_answered a (answers_to m e q)
      → Bounded highest_alternative largest_top a
