-- A row that is listed is an answer in words. Assumes nothing.
--     Onward m e g k s r    r is what the words say of it from block k on, and s is what it was before that
use Rattle.std.proofs.Common.{Some, ◌≡◌, ℕ, zero, suc, ◌+◌, ◌<◌, ◌≤◌, true, false, length, drop, None, refl}
use Rattle.std.proofs.Common.{sym, ap, ◌∙◌, subst, inl, inr, ⊎_elim, arith}
use Rattle.std.proofs.Math.ListN.{drop_of_length-le}
use Rattle.std.proofs.lemmas.Bool.{both_ways, cases_eq}
use Rattle.std.specs.List.{flat_map}
use Rattle.catalogue.specs.Entries.{Entry}
use Rattle.query.specs.Lawful.{shares}
use Rattle.query.specs.Limits.{variables}
use Rattle.query.specs.Parts.{Group}
use Rattle.triples.specs.Meaning.{Meaning, Term, Sound}
use Rattle.filter.specs.Rows.{Row, none, value}
use Rattle.filter.specs.Filters.{passes}
use Rattle.algebra.specs.Patterns.{blank, Stored}
use Rattle.algebra.specs.Algebra.{bgp}
use Rattle.algebra.specs.Answers.{times}
use Rattle.algebra.specs.Order.{first_part}
use Rattle.algebra.specs.Words.{reached, upto, Fits, Extended, LeftOut, Answered, no_part}
use Rattle.algebra.specs.Admissions.{Completes}
use Rattle.algebra.proofs.Lists.{drop-next}
use Rattle.algebra.proofs.Members.{Member, member_from_filter, member_from_flat_map}
use Rattle.algebra.proofs.Rows.{length-blank, value-blank, member_from_times}
use Rattle.algebra.proofs.Patterns.{stored_from_same, term_from_stored}
use Rattle.algebra.proofs.Completions.{kept_from_completes}
use Rattle.algebra.proofs.Listing.{or_itself, extended, rows_of}
use Rattle.algebra.proofs.Fitting.{completes_from_stored, fits_from_member, member-fitting}
use Rattle.algebra.proofs.Fitting.{member_from_or_itself}
use Rattle.algebra.proofs.Owners.{block_at, held_from_block, first_part-required, held_from_required}
use Rattle.algebra.proofs.Upto.{reached-low, value-upto_part, upto_from_values}
use Rattle.algebra.proofs.RowsInWork.{Worked, Asked, made_by, some_from_term, value-own, worked-next}
use Rattle.algebra.proofs.RowsInWork.{upto_from_next, others_from_completes, completes_from_own}

-- r has s as its values up to the first k blocks, and each later block asks of it what it has
record Onward (m : Meaning) (e : ℕ → Entry) (g : Group) (k : ℕ) (s r : Row) : Type 0 where
  long : length r ≡ variables
  before : upto g k r ≡ s
  blocks : (i : ℕ) → k ≤ i → i < length g.blocks → Asked m e g r i
  others : (v : ℕ) → first_part g v ≡ None → value r v ≡ none

onward_none : (m : Meaning) (e : ℕ → Entry) (g : Group) (k : ℕ) (s r : Row) → k ≡ length g.blocks
    → Worked g k s → r ≡ s → Onward m e g k s r
onward_none m e g k s r all w same =
    let long : length r ≡ variables = ap length same ∙ w.long in
    record {
      long = long;
      before = upto_from_values g k r s long w.long (λ v _. ap (λ u. value u v) same) w.later;
      blocks = λ i low high. absurd (omega arith);
      others = λ v nowhere. ap (λ u. value u v) same ∙ w.later v (ap (reached k) nowhere);
    }

-- r comes from t behind block k, which differs from s at most at that block's own variables
onward_more : (m : Meaning) (e : ℕ → Entry) (g : Group) (k : ℕ) (s t r : Row) → Worked g k s
    → ((v : ℕ) → (first_part g v ≡ Some (k + 1) → ⊥) → value t v ≡ value s v) → Asked m e g r k
    → Onward m e g (k + 1) t r → Onward m e g k s r
onward_more m e g k s t r w kept here on =
    record {
      long = on.long;
      before = upto_from_next g k s w r t on.long kept on.before;
      blocks = λ i above high. ⊎_elim
          (λ same. subst (Asked m e g r) same here)
          (λ other. on.blocks i (omega arith) high)
          (cases_eq k i);
      others = on.others;
    }

module _ (m : Meaning) (e : ℕ → Entry) (g : Group) (sound : Sound m) (apart : shares g ≡ false) where
  -- the block fits t, and r comes from there
  onward_fit : (k : ℕ) (s t r : Row) → k < length g.blocks → Worked g k s
      → Completes m.top (block_at g k).triples s t → Fits m e (block_at g k) t → Onward m e g (k + 1) t r
      → Onward m e g k s r
  onward_fit k s t r low w f fits on =
      let extended : Extended m e g (k + 1) (block_at g k) r = record {
        values = λ v own. subst (Term m.top) (sym (ap (λ u. value u v) on.before)
            ∙ value-upto_part g (k + 1) r v (k + 1) on.long own (omega arith))
            (term_from_stored m sound (block_at g k).triples t v fits.triples
            ((held_from_block g k v own).1));
        fits = subst (Fits m e (block_at g k)) (sym on.before) fits;
      } in
      onward_more m e g k s t r w (others_from_completes g k s w apart low m.top t f) (inl extended) on

  -- the block fits no row, and r comes from s as it is
  onward_left : (k : ℕ) (s r : Row) → k < length g.blocks → Worked g k s
      → ((t : Row) → Completes m.top (block_at g k).triples s t → Fits m e (block_at g k) t → ⊥)
      → Onward m e g (k + 1) s r → Onward m e g k s r
  onward_left k s r low w never on =
      let left : LeftOut m e g (k + 1) (block_at g k) r = record {
        valueless = λ v own.
            sym (value-upto_part g (k + 1) r v (k + 1) on.long own (omega arith))
            ∙ ap (λ u. value u v) on.before ∙ value-own g k s w v own;
        nothing = λ t gives fits. never t
            (completes_from_own g k s w apart low m.top t gives.long gives.own
            (λ v other. gives.others v other ∙ ap (λ u. value u v) on.before)) fits;
      } in
      onward_more m e g k s s r w (λ v _. refl) (inr left) on

  -- n blocks are left
  onward_listed : (n k : ℕ) (s r : Row) → k + n ≡ length g.blocks → Worked g k s
      → Member r (extended m e (drop k g.blocks) s) → Onward m e g k s r
  onward_listed zero k s r all w h =
      let done = drop_of_length-le g.blocks {i = k} (omega arith) in
      ⊎_elim (onward_none m e g k s r (omega arith) w) (λ never. absurd never)
      (subst (λ bs. Member r (extended m e bs s)) done h)
  onward_listed (suc n) k s r all w h =
      let low : k < length g.blocks = omega arith in
      let all_next : (k + 1) + n ≡ length g.blocks = omega arith in
      let fits = made_by m e g k s in
      let (t, from, on) = member_from_flat_map (extended m e (drop (k + 1) g.blocks)) r (or_itself s fits)
      (subst (λ bs. Member r (extended m e bs s)) (drop-next g.blocks k no_part low) h) in
      ⊎_elim
      (λ fit. let (f, good) = fits_from_member m e (block_at g k) s t w.long fit in
      onward_fit k s t r low w f good
      (onward_listed n (k + 1) t r all_next
      (worked-next g k s w t (f.long ∙ w.long) (others_from_completes g k s w apart low m.top t f)) on))
      (λ left. onward_left k s r low w
      (λ u f good. subst (Member u) left.1 (member-fitting m e (block_at g k) s u f good))
      (onward_listed n (k + 1) s r all_next (worked-next g k s w s w.long (λ v _. refl))
      (subst (λ u. Member r (extended m e (drop (k + 1) g.blocks) u)) left.0 on)))
      (member_from_or_itself s t fits from)

  -- the rows of the required triples, as rows in work before the first block
  worked_start : (s : Row) → Completes m.top g.required blank s → Stored m g.required s → Worked g 0 s
  worked_start s f held =
      record {
        long = f.long ∙ length-blank;
        later = λ v far. kept_from_completes m.top g.required blank s f v
            (λ o. both_ways (reached 0 (first_part g v)) far
            (reached-low 0 0 (first_part g v) (first_part-required g v o.held) (omega arith)))
            ∙ value-blank v;
        required = λ v first. some_from_term m.top (value s v)
            (term_from_stored m sound g.required s v held (held_from_required g v first));
      }

  answered_onward : (s r : Row) → Stored m g.required s → Onward m e g 0 s r
      → passes e g.filter r ≡ true → Answered m e g r
  answered_onward s r held on true_on =
      record {
        long = on.long;
        required = stored_from_same m g.required r s (λ v there.
            sym (value-upto_part g 0 r v 0 on.long (first_part-required g v there) (omega arith))
            ∙ ap (λ u. value u v) on.before)
            held;
        blocks = λ i low. on.blocks i (omega arith) low;
        others = on.others;
        filter = true_on;
      }

  -- a row that is listed is an answer in words
  pub words_from_listed : (r : Row) → 0 < times r (rows_of m e g) → Answered m e g r
  words_from_listed r h =
      let (there, true_on) = member_from_filter (passes e g.filter) r
      (flat_map (extended m e g.blocks) (bgp m g.required)) (member_from_times r (rows_of m e g) h) in
      let (s, start, on) = member_from_flat_map (extended m e g.blocks) r (bgp m g.required) there in
      let (f, held) = completes_from_stored m g.required blank s length-blank start in
      answered_onward s r held
      (onward_listed (length g.blocks) 0 s r (omega arith) (worked_start s f held) on) true_on
