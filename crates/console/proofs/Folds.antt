-- What folding the bytes of a slice answers, where a call may answer none. Assumes nothing.
use Rattle.std.proofs.Common.{◌≡◌, ℕ, List, [], ◌∷◌, length, Bor, Iter, Some, None, Option, sym, refl, ap}
use Rattle.std.proofs.Common.{◌∙◌, arith, option_and_then}
use Rattle.std.proofs.iter.Yields.{fronts}
use Rattle.std.specs.Iterator.{Yields}
use Rattle.std.specs.List.{FoldsTo}
use Rattle.std.specs.Option.{MatchOption}

-- what h makes of the bytes in turn, from n; none where it makes none of one
abbrev pub folded : (ℕ → ℕ → Option ℕ) → ℕ → List ℕ → Option ℕ
folded h n [] = Some n
folded h n (c ∷ cs) = option_and_then (λ m. folded h m cs) (h n c)

-- the turns T go on where h makes something of the byte
module _ {F : Type 0} (T : F × ℕ → Bor ℕ → F × ℕ → Type 0) (h : ℕ → ℕ → Option ℕ)
    (goes : (p : F × ℕ) (x : Bor ℕ) (q : F × ℕ) → T p x q → h p.1 x.now ≡ Some q.1) where
  -- the turns at xs leave the bytes behind them to what they have made
  folded_along : (xs : List (Bor ℕ)) (s t : Iter ℕ) (p q : F × ℕ) → Yields fronts s xs t → FoldsTo T p xs q
      → folded h p.1 s.rest.now ≡ folded h q.1 t.rest.now
  folded_along [] s t p q gave turned =
      ap (λ (i : Iter ℕ). folded h p.1 i.rest.now) gave ∙ ap (λ (r : F × ℕ). folded h r.1 t.rest.now) turned
  folded_along (x ∷ xs) s t p q gave turned =
      ap (folded h p.1) gave.1
      ∙ ap (option_and_then (λ m. folded h m gave.0.rest.now)) (goes p x turned.0 turned.1)
      ∙ folded_along xs gave.0 t turned.0 q gave.2 turned.2

  -- where no byte is left, the number stands
  folded_end : (n : ℕ) (cs : List ℕ) → length cs ≡ 0 → folded h n cs ≡ Some n
  folded_end n [] none = refl
  folded_end n (c ∷ cs) none = absurd (omega arith)

  -- the turns go on to the last byte, or one breaks off
  pub folded-from_turns : (s t u : Iter ℕ) (xs : List (Bor ℕ)) (o : Option (Bor ℕ)) (p q : F × ℕ)
      (r : Option ℕ) (B : Bor ℕ → Type 0) → ((x : Bor ℕ) → B x → (h q.1 x.now ≡ None) × (r ≡ None))
      → Yields fronts s xs t → fronts t o u → FoldsTo T p xs q → MatchOption o (r ≡ Some q.1) B
      → r ≡ folded h p.1 s.rest.now
  folded-from_turns s t u xs None p q r B breaks gave last turned ends =
      ends ∙ sym (folded_along xs s t p q gave turned ∙ folded_end q.1 t.rest.now last.0)
  folded-from_turns s t u xs (Some x) p q r B breaks gave last turned ends =
      (breaks x ends).1
      ∙ sym (folded_along xs s t p q gave turned ∙ ap (folded h q.1) last
      ∙ ap (option_and_then (λ m. folded h m u.rest.now)) (breaks x ends).0)
