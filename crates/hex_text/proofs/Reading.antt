-- Laws of reading a text at its front. Assumes nothing.
use Rattle.std.proofs.Common.{◌≡◌, ℕ, ◌<◌, ◌≤◌, Bool, true, false, cond, ◌&&◌, eqb, List, [], ◌∷◌}
use Rattle.std.proofs.Common.{get_or, is_some, length, Bor}
use Rattle.std.proofs.Common.{drop, Some, None, Option, refl, sym, ap, ◌∙◌, arith}
use Rattle.std.specs.Bool.{then_some}
use Rattle.std.specs.List.{IsSplitAt}
use Rattle.std.specs.Option.{MatchOption}
use Rattle.std.proofs.lemmas.Bool.{cond_both, cond-false, ne_eqb}
use Rattle.std.proofs.lemmas.Bool.Decides.{nat_tests}
use Rattle.hex_text.specs.Characters.{digit_value, space}
use Rattle.hex_text.specs.Reading.{byte_value, front, led_by, parted, read_text, GoesOn}
use Rattle.hex_text.specs.Words.{word_value}

-- front

-- a space begins no byte
front_space : (cs : List ℕ) → front (space ∷ cs) ≡ None
front_space [] = refl
front_space (d ∷ rest) = cond_both (parted rest) None None (λ m. m ≡ None) (λ _. refl) (λ _. refl)

not_space : (c : ℕ) (cs : List ℕ) (b : ℕ) → front (c ∷ cs) ≡ Some b → eqb c space ≡ false
not_space c cs b e =
    ne_eqb c space
    (λ is. let none : front (c ∷ cs) ≡ None = ap (λ (n : ℕ). front (n ∷ cs)) is ∙ front_space cs
    in let z : ◌≡◌ {A = ℕ} 0 1 = cc in omega arith)

-- read_text

pub read_space : (cs : List ℕ) → read_text (space ∷ cs) ≡ read_text cs
read_space [] = refl
read_space (d ∷ rest) = refl

pub read_front : (cs : List ℕ) (b : ℕ) → front cs ≡ Some b
    → read_text cs ≡ led_by (Some b) (read_text (drop 2 cs))
read_front [] b e = let z : ◌≡◌ {A = ℕ} 0 1 = cc in absurd (omega arith)
read_front (c ∷ []) b e = let z : ◌≡◌ {A = ℕ} 0 1 = cc in absurd (omega arith)
read_front (c ∷ d ∷ rest) b e =
    cond-false (eqb c space) (read_text (d ∷ rest)) (led_by (front (c ∷ d ∷ rest)) (read_text rest))
    (not_space c (d ∷ rest) b e) ∙ ap (λ m. led_by m (read_text rest)) e

-- a text that begins with no space stands for bytes where its first two characters and what follows do

led_some : (fits : Bool) (m : Option ℕ) (bs : Option (List ℕ))
    → is_some (led_by (cond fits m None) bs) ≡ (is_some m && fits && is_some bs)
led_some true None bs = refl
led_some true (Some b) None = refl
led_some true (Some b) (Some bs) = refl
led_some false None bs = refl
led_some false (Some b) bs = refl

pub read_pair_some : (text word rest : List ℕ) (b : Bool) → IsSplitAt text 2 word rest
    → eqb (get_or text 0 0) space ≡ false → b ≡ (is_some (word_value word) && parted rest)
    → is_some (read_text text) ≡ (b && is_some (read_text rest))
read_pair_some [] word rest b split none is = absurd (omega (arith, split.0))
read_pair_some (c ∷ []) word rest b split none is = absurd (omega (arith, split.0))
read_pair_some (c ∷ d ∷ cs) word rest b split none is =
    ap is_some (cond-false (eqb c space) (read_text (d ∷ cs)) _ none)
    ∙ led_some (parted cs) (byte_value (digit_value c) (digit_value d)) (read_text cs)
    ∙ sym (ap (λ x. x && is_some (read_text rest)) is
    ∙ rw (split.1, split.2) refl)

-- what is left behind two digits, where b says that they are a byte; none where b says that they are not
pub decided : (text : List ℕ) (rest : Bor (List ℕ)) (b : Bool) (r : Option (Bor (List ℕ)))
    → r ≡ then_some b rest → 2 ≤ length text → length rest.now < length text
    → is_some (read_text text) ≡ (b && is_some (read_text rest.now))
    → MatchOption r (is_some (read_text text) ≡ eqb (length text) 0) (λ after. GoesOn text after.now)
decided text rest true r is long less e = rw is (less, sym e)
decided text rest false r is long less e = rw is (grind (arith, nat_tests, e))
