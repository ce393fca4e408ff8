-- A row that is an answer in words is listed. Assumes nothing.
use Rattle.std.proofs.Common.{◌≡◌, ℕ, zero, suc, ◌+◌, ◌<◌, false, length, drop, Some, None, Option, refl, sym}
use Rattle.std.proofs.Common.{ap, ◌∙◌, subst, inl, ⊎_elim, arith}
use Rattle.std.proofs.Math.ListN.{drop_of_length-le}
use Rattle.std.proofs.lemmas.Bool.{cases_Bool, both_ways}
use Rattle.std.specs.List.{flat_map}
use Rattle.catalogue.specs.Entries.{Entry}
use Rattle.query.specs.Lawful.{shares, mentions}
use Rattle.query.specs.Parts.{Group}
use Rattle.triples.specs.Meaning.{Meaning, Term, Sound}
use Rattle.filter.specs.Rows.{Row, none, value}
use Rattle.filter.specs.Filters.{passes}
use Rattle.algebra.specs.Patterns.{blank}
use Rattle.algebra.specs.Algebra.{bgp}
use Rattle.algebra.specs.Answers.{times}
use Rattle.algebra.specs.Order.{first_part}
use Rattle.algebra.specs.Words.{reached, upto, LeftOut, Answered, no_part}
use Rattle.algebra.specs.Admissions.{Completes}
use Rattle.algebra.proofs.Lists.{drop-next}
use Rattle.algebra.proofs.Members.{Member, member-filter, member-flat_map, nil_from_members}
use Rattle.algebra.proofs.Rows.{length-blank, value-blank, times_from_member}
use Rattle.algebra.proofs.Patterns.{stored_from_same, term_from_stored}
use Rattle.algebra.proofs.Listing.{or_itself, extended, rows_of}
use Rattle.algebra.proofs.Fitting.{member-stored, fits_from_member, member-fitting, member-or_itself}
use Rattle.algebra.proofs.Fitting.{member-or_itself_none}
use Rattle.algebra.proofs.Owners.{block_at, held_from_block, first_part-required, held_from_required}
use Rattle.algebra.proofs.Upto.{reached-low, reached-more, reached-high, reached_or_own, reached-unowned}
use Rattle.algebra.proofs.Upto.{reached-fewer, reached-first, length-upto, value-upto_reached}
use Rattle.algebra.proofs.Upto.{value-upto_part, value-upto_later, upto_from_values, value-upto_past}
use Rattle.algebra.proofs.RowsInWork.{Worked, Asked, made_by, some_from_term, others_from_completes}
use Rattle.algebra.proofs.RowsInWork.{completes_from_own}

module _ (m : Meaning) (e : ℕ → Entry) (g : Group) (r : Row) (a : Answered m e g r) where
  -- with the values of all blocks it is the row itself
  upto-all : (k : ℕ) → k ≡ length g.blocks → upto g k r ≡ r
  upto-all k all =
      upto_from_values g k r r a.long a.long (λ v _. refl) (λ v far. none_far v (first_part g v) refl far)
    where
      none_far : (v : ℕ) (o : Option ℕ) → first_part g v ≡ o → reached k (first_part g v) ≡ false
          → value r v ≡ none
      none_far v None at far = a.others v at
      none_far v (Some zero) at far =
          absurd (both_ways (reached k (first_part g v)) far
          (reached-low k 0 (first_part g v) at (omega arith)))
      none_far v (Some (suc i)) at far =
          let next : suc i ≡ i + 1 = omega arith in
          let low = (held_from_block g i v (at ∙ ap Some next)).0 in
          absurd (both_ways (reached k (first_part g v)) far
          (reached-low k (suc i) (first_part g v) at (omega arith)))

  -- up to the next block it differs at most at that block's own variables
  value-upto_others : (k v : ℕ) → (first_part g v ≡ Some (k + 1) → ⊥)
      → value (upto g (k + 1) r) v ≡ value (upto g k r) v
  value-upto_others k v other =
      ⊎_elim
      (λ t. value-upto_reached g (k + 1) r v a.long (reached-more k (first_part g v) t)
      ∙ sym (value-upto_reached g k r v a.long t))
      (λ f. value-upto_later g (k + 1) r v (reached-unowned k (first_part g v) f other)
      ∙ sym (value-upto_later g k r v f))
      (cases_Bool (reached k (first_part g v)))

  -- up to a block that it passed by, it is what it was before
  upto-left : (k : ℕ) → LeftOut m e g (k + 1) (block_at g k) r → upto g (k + 1) r ≡ upto g k r
  upto-left k left =
      upto_from_values g (k + 1) r (upto g k r) a.long (length-upto g k r)
      (λ v h. ⊎_elim (λ t. sym (value-upto_reached g k r v a.long t))
      (λ own. left.valueless v own
      ∙ sym (value-upto_later g k r v (reached-high k (k + 1) (first_part g v) own (omega arith))))
      (reached_or_own k (first_part g v) h))
      (λ v far. value-upto_later g k r v (reached-fewer k (first_part g v) far))

  module _ (sound : Sound m) (apart : shares g ≡ false) where
    worked-upto : (k : ℕ) → Worked g k (upto g k r)
    worked-upto k =
        record {
          long = length-upto g k r;
          later = value-upto_later g k r;
          required = λ v first none_there. some_from_term m.top (value r v)
              (term_from_stored m sound g.required r v a.required (held_from_required g v first))
              (sym (value-upto_part g k r v 0 a.long first (omega arith)) ∙ none_there);
        }

    -- a block that fits makes its row of the one before, a block that does not leaves it
    listed_step : (k : ℕ) → k < length g.blocks → Asked m e g r k
        → Member (upto g (k + 1) r)
        (or_itself (upto g k r) (made_by m e g k (upto g k r)))
    listed_step k low asked =
        let s = upto g k r in
        let t = upto g (k + 1) r in
        let w = worked-upto k in
        let rows = made_by m e g k s in
        ⊎_elim
        (λ extended. member-or_itself s t rows
        (member-fitting m e (block_at g k) s t
        (completes_from_own g k s w apart low m.top t (length-upto g (k + 1) r)
        (λ v own. subst (Term m.top) (sym (value-upto_part g (k + 1) r v (k + 1) a.long own (omega arith)))
        (extended.values v own))
        (value-upto_others k)) extended.fits))
        (λ left. member-or_itself_none s t rows (upto-left k left) (nil_from_members rows (λ u h.
        let (f, fits) = fits_from_member m e (block_at g k) s u w.long h in
        left.nothing u (record {
          long = f.long ∙ w.long;
          own = λ v own. term_from_stored m sound (block_at g k).triples u v fits.triples
              ((held_from_block g k v own).1);
          others = λ v other. others_from_completes g k s w apart low m.top u f v other
              ∙ sym (value-upto_others k v other);
        }) fits)))
        asked

    -- n blocks are left
    listed_onward : (n k : ℕ) → k + n ≡ length g.blocks
        → Member r (extended m e (drop k g.blocks) (upto g k r))
    listed_onward zero k all =
        let done = drop_of_length-le g.blocks {i = k} (omega arith) in
        subst (λ bs. Member r (extended m e bs (upto g k r))) (sym done)
        (inl (sym (upto-all k (omega arith))))
    listed_onward (suc n) k all =
        let low : k < length g.blocks = omega arith in
        let all_next : (k + 1) + n ≡ length g.blocks = omega arith in
        subst (λ bs. Member r (extended m e bs (upto g k r))) (sym (drop-next g.blocks k no_part low))
        (member-flat_map (extended m e (drop (k + 1) g.blocks)) r (upto g (k + 1) r)
        (or_itself (upto g k r) (made_by m e g k (upto g k r)))
        (listed_step k low (a.blocks k low)) (listed_onward n (k + 1) all_next))

    -- its required triples alone
    completes_start : Completes m.top g.required blank (upto g 0 r)
    completes_start =
        record {
          long = length-upto g 0 r ∙ sym length-blank;
          given = λ v small held free.
              subst (Term m.top)
              (sym (value-upto_part g 0 r v 0 a.long (first_part-required g v held) (omega arith)))
              (term_from_stored m sound g.required r v a.required held);
          kept = λ v h. ⊎_elim
              (λ past. value-upto_past g 0 r v past)
              (⊎_elim
              (λ lacks. value-upto_later g 0 r v (reached-first (first_part g v)
              (λ first. both_ways (mentions v g.required) lacks (held_from_required g v first))))
              (λ some. absurd (some (value-blank v))))
              h
              ∙ sym (value-blank v);
        }

    -- a row that is an answer in words is listed
    pub listed_from_words : 0 < times r (rows_of m e g)
    listed_from_words =
        let held = stored_from_same m g.required (upto g 0 r) r
        (λ v there. value-upto_part g 0 r v 0 a.long (first_part-required g v there) (omega arith))
        a.required in
        let start = member-stored m g.required blank (upto g 0 r) completes_start held in
        times_from_member r (rows_of m e g)
        (member-filter (passes e g.filter) r (flat_map (extended m e g.blocks) (bgp m g.required)) a.filter
        (member-flat_map (extended m e g.blocks) r (upto g 0 r) (bgp m g.required) start
        (listed_onward (length g.blocks) 0 (omega arith))))
