-- A text stands for what its words make, where each word is a byte or empty. Assumes nothing.
use Rattle.std.proofs.Common.{◌≡◌, ℕ, Bool, true, false, cond, ◌&&◌, ◌||◌, eqb, List, [], ◌∷◌, is_some, Some}
use Rattle.std.proofs.Common.{None}
use Rattle.std.proofs.Common.{length, Option, refl, sym, subst, ap, ◌∙◌, ⊎_elim, arith}
use Rattle.std.proofs.lemmas.Bool.{cases_eq, cond_both, cond-false, ne_eqb}
use Rattle.std.specs.List.{cons_option, filter_map, list_all, onto_first}
use Rattle.hex_text.specs.Characters.{digit_value, space}
use Rattle.hex_text.specs.Reading.{byte_value, front, led_by, parted, read_text}
use Rattle.hex_text.specs.Words.{is_word, word_value, words}
use Rattle.hex_text.proofs.Digits.{byte_value-none}

-- the bytes that the words make; none where one of them is neither empty nor a byte
abbrev pub spelled : List (List ℕ) → Option (List ℕ)
spelled parts = cond (list_all is_word parts) (Some (filter_map word_value parts)) None

none_from_not_some : {A : Type 0} (o : Option A) → is_some o ≡ false → o ≡ None
none_from_not_some None h = refl
none_from_not_some (Some a) h = cc

spelled_some : (parts : List (List ℕ)) → is_some (spelled parts) ≡ true
    → spelled parts ≡ Some (filter_map word_value parts)
spelled_some parts =
    elim (list_all is_word parts) as (λ b. is_some (cond b (Some (filter_map word_value parts)) None) ≡ true
    → cond b (Some (filter_map word_value parts)) None ≡ Some (filter_map word_value parts)) [
      | true ↦ λ h. refl
      | false ↦ λ h. cc
    ]

-- one word

led_cond : (b : ℕ) (fits : Bool) (bs : List ℕ)
    → led_by (Some b) (cond fits (Some bs) None) ≡ cond fits (Some (b ∷ bs)) None
led_cond b true bs = refl
led_cond b false bs = refl

led_spelled : (m : Option ℕ) (parts : List (List ℕ)) (r : Option (List ℕ)) → r ≡ spelled parts
    → led_by m r
    ≡ cond (is_some m && list_all is_word parts) (Some (cons_option m (filter_map word_value parts))) None
led_spelled None parts r e = refl
led_spelled (Some b) parts r e =
    ap (led_by (Some b)) e ∙ led_cond b (list_all is_word parts) (filter_map word_value parts)

-- a word of three characters or more is no byte

long_part : (c d x : ℕ) (part : List ℕ) → is_word (c ∷ d ∷ x ∷ part) ≡ false
long_part c d x part =
    ap (λ b. b || false) (ne_eqb (length (c ∷ d ∷ x ∷ part)) 0 (λ e. omega arith))

long_word : (c d x : ℕ) (parts : List (List ℕ))
    → spelled (onto_first c (onto_first d (onto_first x parts))) ≡ None
long_word c d x [] = refl
long_word c d x (part ∷ parts) =
    ap (λ b. cond (b && list_all is_word parts) (Some (filter_map word_value parts)) None)
    (long_part c d x part)

-- a digit and a space are no byte

front_split : (c : ℕ) (rest : List ℕ) → front (c ∷ space ∷ rest) ≡ None
front_split c rest =
    cond_both (parted rest) (byte_value (digit_value c) None) None (λ m. m ≡ None)
    (λ _. byte_value-none (digit_value c)) (λ _. refl)

-- two characters that are no spaces, and what follows them
two_words : (c d : ℕ) (rest : List ℕ) → read_text rest ≡ spelled (words rest)
    → led_by (front (c ∷ d ∷ rest)) (read_text rest) ≡ spelled (onto_first c (onto_first d (words rest)))
two_words c d [] e = led_spelled (byte_value (digit_value c) (digit_value d)) [] (Some []) refl
two_words c d (x ∷ xs) e =
    let r = read_text (x ∷ xs)
    in let m = byte_value (digit_value c) (digit_value d)
    in (elim (eqb x space) as (λ b. r ≡ spelled (cond b ([] ∷ words xs) (onto_first x (words xs)))
    → led_by (cond b m None) r
    ≡ spelled (onto_first c (onto_first d (cond b ([] ∷ words xs) (onto_first x (words xs)))))) [
      | true ↦ λ is. led_spelled m (words xs) r is
      | false ↦ λ is. sym (long_word c d x (words xs))
    ]) e

-- a character that is no space, and what follows it
one_word : (c d : ℕ) (rest : List ℕ) → read_text rest ≡ spelled (words rest)
    → led_by (front (c ∷ d ∷ rest)) (read_text rest) ≡ spelled (onto_first c (words (d ∷ rest)))
one_word c d rest e =
    ⊎_elim
    (λ is. subst (λ n. led_by (front (c ∷ n ∷ rest)) (read_text rest)
    ≡ spelled (onto_first c (words (n ∷ rest))))
    (sym is) (ap (λ m. led_by m (read_text rest)) (front_split c rest)))
    (λ isnt. two_words c d rest e
    ∙ ap (λ parts. spelled (onto_first c parts))
    (sym (cond-false (eqb d space) ([] ∷ words rest) (onto_first d (words rest)) (ne_eqb d space isnt))))
    (cases_eq d space)

pub read_words : (text : List ℕ) → read_text text ≡ spelled (words text)
read_words [] = refl
read_words (c ∷ []) =
    elim (eqb c space) as (λ b. cond b (Some []) None ≡ spelled (cond b ([] ∷ [] ∷ []) ((c ∷ []) ∷ [])))
    [ true ↦ refl | false ↦ refl ]
read_words (c ∷ d ∷ rest) =
    elim (eqb c space) as (λ b. cond b (read_text (d ∷ rest)) (led_by (front (c ∷ d ∷ rest)) (read_text rest))
    ≡ spelled (cond b ([] ∷ words (d ∷ rest)) (onto_first c (words (d ∷ rest)))))
    [ true ↦ read_words (d ∷ rest) | false ↦ one_word c d rest (read_words rest) ]

-- the outcome, by whether there is one

pub none_read : (text : List ℕ) → is_some (read_text text) ≡ false → read_text text ≡ None
none_read text h = none_from_not_some (read_text text) h

pub some_read : (text : List ℕ) → is_some (read_text text) ≡ true
    → read_text text ≡ Some (filter_map word_value (words text))
some_read text h =
    read_words text ∙ spelled_some (words text) (ap is_some (sym (read_words text)) ∙ h)
