-- The worked examples hold of the definitions. Assumes nothing.
use Rattle.std.proofs.Common.{◌≡◌, true, List, [], ◌∷◌, None, refl, subst, ⊎_elim, sym}
use Rattle.std.proofs.lemmas.Bool.{or_cases, true≢false, false≢true}
use Rattle.std.specs.List.{AllByRecursion}
use Rattle.varint.specs.Encode.{encode}
use Rattle.varint.specs.Decode.{decode}
use Rattle.query.specs.Grammar.{verdict}
use Rattle.triples.specs.declared.triple.Triple.{Triple}
use Rattle.triples.specs.Meaning.{among}
use Rattle.triples.specs.Order.{same}
use Rattle.triples.specs.Seeks.{Candidate, Sought}
use Rattle.triples.proofs.Order.{same_is}
use Rattle.algebra.specs.Deliveries.{triple, selector, deliveries}
use Rattle.algebra.specs.Examples.{WorkedExamples}

-- what holds of no element of a list holds of no triple among it
none_among : (P : Triple → Type 0) (xs : List Triple) → AllByRecursion (λ x. P x → ⊥) xs
    → (t : Triple) → among xs t ≡ true → P t → ⊥
none_among P [] none t h p = false≢true h
none_among P (x ∷ xs) none t h p =
    ⊎_elim
    (λ is. none.0 (subst P (sym (same_is x t is)) p))
    (λ later. none_among P xs none.1 t later p)
    (or_cases (same x t) (among xs t) h)

none_behind : Sought deliveries.has (selector 0 4 0) (triple 1 4 4) None
none_behind t c =
    none_among (Candidate deliveries.has (selector 0 4 0) (triple 1 4 4))
    (triple 1 4 2 ∷ triple 1 4 3 ∷ triple 2 5 6 ∷ [])
    (λ c. true≢false c.reached, (λ c. true≢false c.reached, (λ c. false≢true c.fit, tt)))
    t c.held c

-- each computes, but that no triple of three is left behind the last, which is asked of each
pub examples_hold : WorkedExamples
unfolding encode decode verdict
examples_hold = record {
  two_bytes_written = refl;
  two_bytes_read = refl;
  three_bytes_written = refl;
  three_bytes_read = refl;
  largest_written = refl;
  largest_read = refl;
  larger_malformed = refl;
  larger_refused = refl;
  malformed_published = refl;
  seek_finds_its_start = record {
    candidate = record { held = refl; fit = refl; reached = refl };
    first = λ u c. c.reached;
  };
  seek_finds_none_after_the_last = none_behind;
  block_extends_or_is_left = refl;
  answers_packed = refl;
  algebra_gives_the_rows_walked = refl;
  every_term_tried = refl;
  every_pair_tried = refl;
  only_what_matches_tried = refl;
  extended_row_filtered = refl;
  two_triples_joined = refl;
  triples_tested_apart = refl;
  triple_without_the_variable_tested = refl;
  each_block_by_itself = refl;
  long_numbers_packed = refl;
  left_out_after_the_tries = refl;
  error_leaves_the_row = refl;
  nothing_asked_answered_once = refl;
  blank_row_packed = refl;
  same_row_once_in_each = refl;
  shared_refused = refl;
  shared_published = refl;
}
