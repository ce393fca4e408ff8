-- Laws of what the builder knows. Assumes nothing.
use Rattle.std.proofs.Common.{◌≡◌, ℕ, ◌<◌, Bool, true, false, not, ◌&&◌, ◌||◌, List, ◌∷◌, [], ◌++◌, Decides}
use Rattle.std.proofs.Common.{MatchBool, sym, refl, ap, ◌∙◌}
use Rattle.std.proofs.lemmas.Bool.{both_ways}
use Rattle.std.proofs.lemmas.Bool.Decides.{same_from_decides}
use Rattle.query.specs.declared.variables.VariableSet.{VariableSet}
use Rattle.query.specs.Parts.{Part, Group}
use Rattle.std.specs.List.{list_any}
use Rattle.query.specs.Lawful.{in_two, shares}
use Rattle.query.specs.Variables.{Gathers, member, mentioned, kept_in}
use Rattle.query.proofs.Lawful.{in_two_push, lacking, shares_decides}

-- a block more

pub twice_push : (v : ℕ) (bs : List Part) (x : Part) (two one part : Bool) → two ≡ in_two (mentioned v) bs
    → one ≡ list_any (mentioned v) bs → part ≡ mentioned v x
    → (two || (one && part)) ≡ in_two (mentioned v) (bs ++ x ∷ [])
twice_push v bs x two one part t o p =
    ap (λ b. b || (one && part)) t
    ∙ ap (λ b. in_two (mentioned v) bs || (b && part)) o
    ∙ ap (λ b. in_two (mentioned v) bs || (list_any (mentioned v) bs && b)) p
    ∙ sym (in_two_push (mentioned v) bs x)

-- shares

not_kept : (a b : Bool) → (not a || b) ≡ not (a && not b)
not_kept true true = refl
not_kept true false = refl
not_kept false b = refl

not_both : (b : Bool) → not b ≡ true → b ≡ true → ⊥
not_both true h e = both_ways false refl h
not_both false h e = both_ways false refl e

not_not : (b : Bool) → not b ≡ false → b ≡ true
not_not true h = refl
not_not false h = sym h

module _ (required two : VariableSet) (g : Group) (knows : Gathers required g.required)
    (twice : (v : ℕ) → v < 16 → member v two ≡ in_two (mentioned v) g.blocks) where
  kept_lacking : (v : ℕ) → v < 16 → kept_in two required v ≡ not (lacking g v)
  kept_lacking v l =
      not_kept (member v two) (member v required)
      ∙ ap (λ b. not (b && not (member v required))) (twice v l)
      ∙ ap (λ b. not (in_two (mentioned v) g.blocks && not b)) (knows v l)

  decided : (r : Bool) → MatchBool r ((v : ℕ) → v < 16 → kept_in two required v ≡ true)
      ((v : ℕ) × ((v < 16) × (kept_in two required v ≡ false)))
      → Decides (not r) ((v : ℕ) × (v < 16) × (lacking g v ≡ true))
  decided true all = (
    λ e. absurd (both_ways false refl e),
    λ k. absurd (not_both (lacking g k.0) (sym (kept_lacking k.0 k.1) ∙ all k.0 k.1) k.2),
  )
  decided false (v, (l, e)) = (λ _. (v, l, not_not (lacking g v) (sym (kept_lacking v l) ∙ e)), λ _. refl)

  -- the blocks share a variable exactly where not each variable of two blocks is a required one
  pub shares_found : (r : Bool) → MatchBool r ((v : ℕ) → v < 16 → kept_in two required v ≡ true)
      ((v : ℕ) × ((v < 16) × (kept_in two required v ≡ false))) → not r ≡ shares g
  shares_found r h = same_from_decides (not r) (shares g) (decided r h) (shares_decides g)
