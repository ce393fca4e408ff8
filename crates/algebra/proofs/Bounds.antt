-- How large the numbers of a query's answers are. Assumes nothing.
use Rattle.std.proofs.Common.{◌≡◌, ℕ, zero, suc, ◌+◌, ◌<◌, ◌≤◌, true, not, List, length, get_or, Some, None}
use Rattle.std.proofs.Common.{Option, refl, ap, ◌∙◌, subst, ⊎_elim, arith}
use Rattle.std.proofs.lemmas.Bool.{and_parts, cases_lt}
use Rattle.std.specs.List.{list_any}
use Rattle.catalogue.specs.Entries.{Entry}
use Rattle.query.specs.Lawful.{lawful, limited, shares}
use Rattle.query.specs.Limits.{most_alternatives}
use Rattle.query.specs.Parts.{Group}
use Rattle.query.proofs.Limits.{query_limits, within_high}
use Rattle.triples.specs.Meaning.{Meaning, Sound, largest_top}
use Rattle.filter.specs.Rows.{Row, value}
use Rattle.algebra.specs.Answers.{Answer, answers_to, times_answered}
use Rattle.algebra.specs.Order.{first_part, no_group}
use Rattle.algebra.specs.Words.{Answered}
use Rattle.algebra.specs.Packing.{Bounded, highest_alternative}
use Rattle.algebra.proofs.Numbered.{once_in_each}
use Rattle.algebra.proofs.Owners.{held_from_required, held_from_block}
use Rattle.algebra.proofs.Patterns.{term_from_stored}
use Rattle.algebra.proofs.Solutions.{solutions_in_words}

module _ (m : Meaning) (e : ℕ → Entry) (sound : Sound m) where
  -- a variable has no value, or a term: in the required triples, or in the block that gave it
  answered-small : (g : Group) (r : Row) → Answered m e g r → (v : ℕ) (p : Option ℕ) → first_part g v ≡ p
      → value r v ≤ m.top
  answered-small g r a v None own = omega (arith, a.others v own)
  answered-small g r a v (Some zero) own =
      let term = term_from_stored m sound g.required r v a.required (held_from_required g v own) in term.small
  answered-small g r a v (Some (suc i)) own =
      let here : first_part g v ≡ Some (i + 1) = own ∙ ap Some (omega arith) in
      ⊎_elim (λ x. let term = x.values v here in term.small) (λ l. omega (arith, l.valueless v here))
      (a.blocks i (held_from_block g i v here).0)

  -- an answer of the query has the number of one of its alternatives, and a row of terms
  pub answers-bounded : (q : List Group) → lawful q ≡ true → (a : Answer)
      → 0 < times_answered a (answers_to m e q) → Bounded highest_alternative largest_top a
  answers-bounded q h a some =
      let once = once_in_each m e q h in
      let few = within_high 1 most_alternatives (length q)
      (query_limits q (and_parts (limited q) (not (list_any shares q)) h).0).few in
      ⊎_elim
      (λ low. let answered = (solutions_in_words m e q sound h a.alternative a.row low).1
      (subst (λ n. 0 < n) (once.each a low) some) in
      record {
        numbered = omega (arith, few);
        row = record {
          long = answered.long;
          small = λ v. omega (
            arith,
            sound.small,
            answered-small (get_or q a.alternative no_group) a.row answered v
                (first_part (get_or q a.alternative no_group) v) refl,
          );
        };
      })
      (λ high. absurd (omega (arith, once.beyond a high)))
      (cases_lt a.alternative (length q))
