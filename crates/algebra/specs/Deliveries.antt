-- A small store, and queries over it by their bytes: what the worked examples are about. Assumes nothing.
--     deliveries          three triples among six terms
--     of_bytes f bytes    what f says of the query that the bytes are
use Rattle.std.specs.Prelude.{ℕ, ◌+◌, List, [], ◌∷◌, map, Some, None, Option}
use Rattle.catalogue.specs.Entries.{Entry, unlisted}
use Rattle.query.specs.Grammar.{Verdict, verdict, accepted, rejected}
use Rattle.query.specs.Parts.{Group}
use Rattle.triples.specs.declared.selector.Selector.{Selector}
use Rattle.triples.specs.declared.triple.Triple.{Triple}
use Rattle.triples.specs.Meaning.{Meaning, listed}
use Rattle.algebra.specs.Answers.{Answer, answers_to}
use Rattle.algebra.specs.Admissions.{Admission}
use Rattle.algebra.specs.Packing.{packed}
use Rattle.algebra.specs.Walk.{Mark, try, answer, answers, walk}

-- a triple by its three numbers
abbrev pub triple : ℕ → ℕ → ℕ → Triple
triple s p o = record { subject = s; property = p; object = o }

-- a selector by its three numbers
abbrev pub selector : ℕ → ℕ → ℕ → Selector
selector s p o = record { subject = s; property = p; object = o }

-- lot 1 went into (4) batches 2 and 3; batch 2 went on to (5) farm 6
abbrev pub deliveries : Meaning
deliveries = listed 6 (triple 1 4 2 ∷ triple 1 4 3 ∷ triple 2 5 6 ∷ [])

-- every term is a name
abbrev pub names : ℕ → Entry
names n = unlisted

-- what did lot 1 go into, and what did each of these go on to, if it is known: required is
-- (1, 4, variable 0), and the one block is (variable 0, 5, variable 1)
abbrev pub onward : List ℕ
onward = 0x01 ∷ 0x01 ∷ 0x02 ∷ 0x08 ∷ 0x01 ∷ 0x01 ∷ 0x01 ∷ 0x01 ∷ 0x0A ∷ 0x03 ∷ 0x00 ∷ 0x00 ∷ []

-- onward, but only what went on nowhere: its group filter has the nodes bound(variable 1), not(node 0)
abbrev pub kept_back : List ℕ
kept_back =
    0x01 ∷ 0x01 ∷ 0x02 ∷ 0x08 ∷ 0x01 ∷ 0x01 ∷ 0x01 ∷ 0x01 ∷ 0x0A ∷ 0x03 ∷ 0x00
    ∷ 0x02 ∷ 0x03 ∷ 0x01 ∷ 0x04 ∷ 0x00 ∷ []

-- onward with a filter in its block, less(variable 0, variable 1), which is an error for two names
abbrev pub onward_by_less : List ℕ
onward_by_less =
    0x01 ∷ 0x01 ∷ 0x02 ∷ 0x08 ∷ 0x01 ∷ 0x01 ∷ 0x01 ∷ 0x01 ∷ 0x0A ∷ 0x03
    ∷ 0x01 ∷ 0x02 ∷ 0x01 ∷ 0x03 ∷ 0x00 ∷ []

-- what went into what: (variable 0, 4, variable 1)
abbrev pub went_into : List ℕ
went_into = 0x01 ∷ 0x01 ∷ 0x01 ∷ 0x08 ∷ 0x03 ∷ 0x00 ∷ 0x00 ∷ []

-- what went into what, and on to where: (variable 0, 4, variable 1) and (variable 1, 5, variable 2)
abbrev pub in_two_steps : List ℕ
in_two_steps = 0x01 ∷ 0x02 ∷ 0x01 ∷ 0x08 ∷ 0x03 ∷ 0x03 ∷ 0x0A ∷ 0x05 ∷ 0x00 ∷ 0x00 ∷ []

-- the same, but both steps are of property 4: (variable 0, 4, variable 1) and (variable 1, 4, variable 2)
abbrev pub into_in_two_steps : List ℕ
into_in_two_steps = 0x01 ∷ 0x02 ∷ 0x01 ∷ 0x08 ∷ 0x03 ∷ 0x03 ∷ 0x08 ∷ 0x05 ∷ 0x00 ∷ 0x00 ∷ []

-- what lot 1 went into, and what went on to batch 3: (1, 4, variable 0) and (variable 1, 5, 3)
abbrev pub apart : List ℕ
apart = 0x01 ∷ 0x02 ∷ 0x02 ∷ 0x08 ∷ 0x01 ∷ 0x03 ∷ 0x0A ∷ 0x06 ∷ 0x00 ∷ 0x00 ∷ []

-- onward with a filter in its block, bound(variable 1), and a second block, (variable 2, 4, variable 0)
abbrev pub from_where_and_onward : List ℕ
from_where_and_onward =
    0x01 ∷ 0x01 ∷ 0x02 ∷ 0x08 ∷ 0x01 ∷ 0x02 ∷ 0x01 ∷ 0x01 ∷ 0x0A ∷ 0x03 ∷ 0x01 ∷ 0x03 ∷ 0x01
    ∷ 0x01 ∷ 0x05 ∷ 0x08 ∷ 0x01 ∷ 0x00 ∷ 0x00 ∷ []

-- one alternative that asks nothing
abbrev pub nothing_asked : List ℕ
nothing_asked = 0x01 ∷ 0x00 ∷ 0x00 ∷ 0x00 ∷ []

-- two alternatives, and both ask where batch 2 went on to: (2, 5, variable 0)
abbrev pub asked_twice : List ℕ
asked_twice = 0x02 ∷ 0x01 ∷ 0x04 ∷ 0x0A ∷ 0x01 ∷ 0x00 ∷ 0x00 ∷ 0x01 ∷ 0x04 ∷ 0x0A ∷ 0x01 ∷ 0x00 ∷ 0x00 ∷ []

-- nothing is required, and variable 0 is in both blocks: (variable 0, 1, variable 1) and
-- (variable 0, 1, variable 2)
abbrev pub shared : List ℕ
shared = 0x01 ∷ 0x00 ∷ 0x02 ∷ 0x01 ∷ 0x01 ∷ 0x02 ∷ 0x03 ∷ 0x00 ∷ 0x01 ∷ 0x01 ∷ 0x02 ∷ 0x05 ∷ 0x00 ∷ 0x00 ∷ []

-- what f says of the query; none where there is none
abbrev pub of_query : {A : Type 0} → (List Group → A) → Verdict → Option A
of_query f (accepted q) = Some (f q)
of_query f (rejected refusal place) = None

-- what f says of the query that the bytes are; none where they are no query
abbrev pub of_bytes : {A : Type 0} → (List Group → A) → List ℕ → Option A
of_bytes f bytes = of_query f (verdict bytes)

-- the marks of the walk over the deliveries
abbrev pub walked : (Meaning → Admission) → List Group → List (Mark Answer)
walked admits q = walk deliveries names (admits deliveries) q

-- how many of the marks are tries
abbrev pub tries_in : {A : Type 0} → List (Mark A) → ℕ
tries_in [] = 0
tries_in (try v x ∷ ms) = tries_in ms + 1
tries_in (answer a ∷ ms) = tries_in ms

-- how many tries the walk over the deliveries makes
abbrev pub tries : (Meaning → Admission) → List Group → ℕ
tries admits q = tries_in (walked admits q)

-- the answers of the walk over the deliveries, each as bytes
abbrev pub packed_answers : (Meaning → Admission) → List Group → List (List ℕ)
packed_answers admits q = map packed (answers (walked admits q))

-- the answers that the algebra gives over the deliveries
abbrev pub defined : List Group → List Answer
defined q = answers_to deliveries names q
