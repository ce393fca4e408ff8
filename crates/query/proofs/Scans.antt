-- What has come in while the items of a list are read. Assumes nothing.
--     Sofar ..    so many items came in, the rest of the list gives the answer, and the builder holds the
--                 draft with them
use Rattle.std.proofs.Common.{◌≡◌, ℕ, suc, ◌+◌, ◌-◌, ◌<◌, ◌≤◌, List, [], ◌∷◌, ◌++◌, length, Ok, Err, Result}
use Rattle.std.proofs.Common.{sym, ap, ◌∙◌, add-zero, arith}
use Rattle.std.proofs.lemmas.List.{length_push}
use Rattle.refusal.specs.declared.rejection.Rejection.{Rejection}
use Rattle.query.specs.declared.cursor.Cursor.{Cursor}
use Rattle.query.specs.Readers as readers
use Rattle.query.specs.Grammar.{Used, with_part, with_parts}
use Rattle.query.specs.Readers.{Read, took, refused, Reader, times, series}
use Rattle.query.specs.Grammar.{with_group}
use Rattle.query.specs.Lawful.{total, triples_in, nodes_in}
use Rattle.query.specs.Parts.{Part, Group}
use Rattle.query.proofs.Lawful.{total_push}
use Rattle.query.specs.Scanning.{ahead, Takes}
use Rattle.std.specs.Result.{IsErrAnd}
use Rattle.query.proofs.Loops.{prefixed, times_more, times_refused, times_done, series_took}
use Rattle.query.proofs.Loops.{series_refused}

-- of the count items from the cursor start on, so many came in up to the cursor here, and Held holds of them
pub record Sofar {S A : Type 0} (item : S → Reader A) (step : S → A → S) (state : List A → S)
    (count taken : ℕ) (start here : Cursor)
    (Held : List A → Type 0) : Type 0 where
  pub items : List A
  pub many : length items ≡ taken
  pub within : taken ≤ count
  pub left : ahead (times count item step (state [])) start
      ≡ prefixed items (ahead (times (count - taken) item step (state items)) here)
  pub held : Held items

module _ {S A : Type 0} {item : S → Reader A} {step : S → A → S} {state : List A → S} {count taken : ℕ}
    {start here : Cursor} {Held : List A → Type 0} where
  module _ (s : Sofar item step state count taken start here Held) where
    abbrev whole : Read (List A)
    whole = ahead (times count item step (state [])) start

    -- what is left is one more than what is left after the next
    left_next : taken < count
        → whole ≡ prefixed s.items (ahead (times (suc (count - (taken + 1))) item step (state s.items)) here)
    left_next l =
        let less : count - taken ≡ suc (count - (taken + 1)) = omega arith in
        s.left ∙ ap (λ n. prefixed s.items (ahead (times n item step (state s.items)) here)) less

    -- the next item came in
    pub sofar_more : (x : A) (there : Cursor) (After : List A → Type 0) → taken < count
        → ahead (item (state s.items)) here ≡ took x there.at there.rest.now
        → state (s.items ++ x ∷ []) ≡ step (state s.items) x → After (s.items ++ x ∷ [])
        → Sofar item step state count (taken + 1) start there After
    sofar_more x there After l t e h = record {
      items = s.items ++ x ∷ [];
      many = omega (arith, length_push s.items x, s.many);
      within = omega (arith, l);
      left =
          times_more item step whole s.items (state s.items) here.at here.rest.now (count - (taken + 1)) x
          there.at there.rest.now (left_next l) t
          ∙ ap (λ z. prefixed (s.items ++ x ∷ []) (ahead (times (count - (taken + 1)) item step z) there))
          (sym e);
      held = h;
    }

    module _ (low high : ℕ) (before : Cursor)
        (counted : ahead (readers.count low high) before ≡ took count start.at start.rest.now)
        (first : S) (from : state [] ≡ first) where
      -- every item came in
      pub sofar_all : count ≤ taken
          → ahead (series low high item step first) before ≡ took s.items here.at here.rest.now
      sofar_all l =
          let none : count - taken ≡ 0 = omega arith in
          ap (λ z. ahead (series low high item step z) before) (sym from)
          ∙ series_took low high item step (state []) before.at before.rest.now count start.at start.rest.now
          s.items here.at here.rest.now counted
          (times_done item step whole s.items (state s.items) here.at here.rest.now
          (s.left ∙ ap (λ n. prefixed s.items (ahead (times n item step (state s.items)) here)) none))

      -- the next item was refused
      pub sofar_refused : {T : Type 0} (r : Result T Rejection) (c : Cursor) (K : List A → Type 0)
          (e : Rejection)
          → IsErrAnd r (λ f. f ≡ e) → taken < count
          → ahead (item (state s.items)) here ≡ refused e.refusal e.place
          → Takes (ahead (series low high item step first) before) r c K
      sofar_refused (Ok x) c K e is l t = absurd is
      sofar_refused (Err f) c K e is l t =
          ap (λ z. ahead (series low high item step z) before) (sym from)
          ∙ series_refused low high item step (state []) before.at before.rest.now count start.at
          start.rest.now
          f.refusal f.place counted
          (times_refused item step whole s.items (state s.items) here.at here.rest.now (count - (taken + 1))
          f.refusal f.place (left_next l) (t ∙ ap (λ g. refused g.refusal g.place) (sym is)))

-- Used

pub same_used : {t t' n n' : ℕ} → t ≡ t' → n ≡ n'
    → ◌≡◌ {A = Used} (record { triples = t; nodes = n }) (record { triples = t'; nodes = n' })
same_used a b = cc

pub parts_none : (u : Used) → with_parts u [] ≡ u
parts_none u = same_used (add-zero u.triples) (add-zero u.nodes)

pub parts_push : (u : Used) (bs : List Part) (b : Part) → with_parts u (bs ++ b ∷ [])
    ≡ with_part (with_parts u bs) b
parts_push u bs b =
    let t = total_push (λ x. length x.triples) bs b in
    let n = total_push (λ x. length x.filter) bs b in
    let triples : u.triples + total (λ x. length x.triples) (bs ++ b ∷ [])
    ≡ u.triples + total (λ x. length x.triples) bs + length b.triples =
    omega (arith, t) in
    let nodes : u.nodes + total (λ x. length x.filter) (bs ++ b ∷ [])
    ≡ u.nodes + total (λ x. length x.filter) bs + length b.filter =
    omega (arith, n) in
    same_used triples nodes

-- what these alternatives use
abbrev pub with_groups : List Group → Used
with_groups q = record { triples = total triples_in q; nodes = total nodes_in q }

pub groups_push : (q : List Group) (g : Group) → with_groups (q ++ g ∷ []) ≡ with_group (with_groups q) g
groups_push q g = same_used (total_push triples_in q g) (total_push nodes_in q g)
