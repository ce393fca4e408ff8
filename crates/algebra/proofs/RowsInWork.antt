-- A row in work: what the walk has of an answer when its first blocks are done, and how the next block makes
-- the next one of it. Assumes nothing.
--     Worked g k s          a row that may be in work when the first k blocks are done
--     Asked m e g r i       what block number i asks of an answer
use Rattle.std.proofs.Common.{◌≡◌, ℕ, ◌+◌, ◌<◌, false, ◌⊎◌, ◌≢◌, List, length, Some, None, Option, sym, ap}
use Rattle.std.proofs.Common.{◌∙◌, inl, inr, ⊎_elim, arith}
use Rattle.std.proofs.lemmas.Bool.{both_ways, cases_eq}
use Rattle.catalogue.specs.Entries.{Entry}
use Rattle.query.specs.Lawful.{mentions, shares}
use Rattle.query.specs.Limits.{variables}
use Rattle.query.specs.Parts.{Group}
use Rattle.triples.specs.Meaning.{Meaning, Term}
use Rattle.filter.specs.Rows.{Row, none, value}
use Rattle.filter.specs.Filters.{passes}
use Rattle.algebra.specs.Order.{first_part}
use Rattle.algebra.specs.Words.{reached, upto, Extended, LeftOut}
use Rattle.algebra.specs.Admissions.{Completes}
use Rattle.algebra.proofs.Rows.{value-past}
use Rattle.algebra.proofs.Completions.{Open, kept_from_completes}
use Rattle.algebra.proofs.Listing.{fitting}
use Rattle.algebra.proofs.Owners.{block_at, held_from_block, owner_from_held, same_part}
use Rattle.algebra.proofs.Upto.{reached-low, reached-more, reached-high, reached-fewer, value-upto_reached}
use Rattle.algebra.proofs.Upto.{upto_from_values}

-- the variables of the required triples have values, those that belong to parts after k have none
pub record Worked (g : Group) (k : ℕ) (s : Row) : Type 0 where
  pub long : length s ≡ variables
  pub later : (v : ℕ) → reached k (first_part g v) ≡ false → value s v ≡ none
  pub required : (v : ℕ) → first_part g v ≡ Some 0 → value s v ≢ none

-- a variable belongs to the part, or it does not
cases_part : (o : Option ℕ) (k : ℕ) → (o ≡ Some k) ⊎ (o ≡ Some k → ⊥)
cases_part None k = inr (λ e. cc)
cases_part (Some j) k =
    ⊎_elim (λ e. inl (ap Some e)) (λ n. inr (λ e. let same : j ≡ k = cc in n same)) (cases_eq j k)

-- a term is not none
pub some_from_term : (top x : ℕ) → Term top x → x ≡ none → ⊥
some_from_term top x t e = omega arith

module _ (g : Group) (k : ℕ) (s : Row) (w : Worked g k s) where
  -- a variable of the next block has no value
  pub value-own : (v : ℕ) → first_part g v ≡ Some (k + 1) → value s v ≡ none
  value-own v own = w.later v (reached-high k (k + 1) (first_part g v) own (omega arith))

  -- a row that differs from s at most at the next block's own variables may be in work behind that block
  pub worked-next : (t : Row) → length t ≡ variables
      → ((v : ℕ) → (first_part g v ≡ Some (k + 1) → ⊥) → value t v ≡ value s v) → Worked g (k + 1) t
  worked-next t long kept =
      record {
        long = long;
        later = λ v far. kept v (λ own. both_ways (reached (k + 1) (first_part g v)) far
            (reached-low (k + 1) (k + 1) (first_part g v) own (omega arith)))
            ∙ w.later v (reached-fewer k (first_part g v) far);
        required = λ v first e. w.required v first (sym (kept v (λ own.
            let never = same_part (first_part g v) 0 (k + 1) first own in omega arith)) ∙ e);
      }

  -- and if it is what r is up to that block, then s is what r is up to the block before
  pub upto_from_next : (r t : Row) → length r ≡ variables
      → ((v : ℕ) → (first_part g v ≡ Some (k + 1) → ⊥) → value t v ≡ value s v) → upto g (k + 1) r ≡ t
      → upto g k r ≡ s
  upto_from_next r t long kept e =
      upto_from_values g k r s long w.long
      (λ v h. sym (value-upto_reached g (k + 1) r v long (reached-more k (first_part g v) h))
      ∙ ap (λ u. value u v) e
      ∙ kept v (λ own. both_ways (reached k (first_part g v))
      (reached-high k (k + 1) (first_part g v) own (omega arith)) h))
      w.later

  module _ (apart : shares g ≡ false) (low : k < length g.blocks) where
    -- what the next block's triples leave open in s are its own variables
    open_own : (v : ℕ) → Open (block_at g k).triples s v → first_part g v ≡ Some (k + 1)
    open_own v o =
        ⊎_elim (λ first. absurd (w.required v first o.valueless)) (λ own. own)
        (owner_from_held g apart k v o.inside low o.held)

    -- so what completes s for them changes nothing else
    pub others_from_completes : (top : ℕ) (t : Row) → Completes top (block_at g k).triples s t → (v : ℕ)
        → (first_part g v ≡ Some (k + 1) → ⊥) → value t v ≡ value s v
    others_from_completes top t c v other =
        kept_from_completes top (block_at g k).triples s t c v (λ o. other (open_own v o))

    -- terms for the block's own variables complete s for its triples: those are what they leave open
    pub completes_from_own : (top : ℕ) (t : Row) → length t ≡ variables
        → ((v : ℕ) → first_part g v ≡ Some (k + 1) → Term top (value t v))
        → ((v : ℕ) → (first_part g v ≡ Some (k + 1) → ⊥) → value t v ≡ value s v)
        → Completes top (block_at g k).triples s t
    completes_from_own top t long own others =
        record {
          long = long ∙ sym w.long;
          given = λ v small held free.
              own v (open_own v (record { inside = small; held = held; valueless = free }));
          kept = λ v h. ⊎_elim
              (λ mine. absurd (⊎_elim
              (λ past. some_from_term top (value t v) (own v mine)
              (value-past t v (omega (arith, long, past))))
              (⊎_elim
              (λ lacks. both_ways (mentions v (block_at g k).triples) lacks ((held_from_block g k v mine).1))
              (λ some. some (value-own v mine)))
              h))
              (others v) (cases_part (first_part g v) (k + 1));
        }

-- what a block makes of a row, and what it asks

-- the rows that block number k of the alternative makes of s, where it fits
abbrev pub made_by : Meaning → (ℕ → Entry) → Group → ℕ → Row → List Row
made_by m e g k s = fitting m (passes e (block_at g k).filter) (block_at g k).triples s

-- what block number i of the alternative asks of r
abbrev pub Asked : Meaning → (ℕ → Entry) → Group → Row → ℕ → Type 0
Asked m e g r i = Extended m e g (i + 1) (block_at g i) r ⊎ LeftOut m e g (i + 1) (block_at g i) r
