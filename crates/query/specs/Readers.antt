-- How bytes are read: readers, and how they are put together. Assumes nothing.
--     Reader A        from a place, and the bytes from there on, to an A, with the place and the bytes
--                     behind it
--     role r f        one number; f says what it stands for, and r refuses it where f gives none
--     both p q c      first p, then q, put together by c
--     times n item    n items, one behind the other
--     series          a count and so many items
use Rattle.std.specs.Prelude.{ℕ, zero, suc, ◌+◌, List, [], ◌∷◌, drop, Some, None, Option}
use Rattle.varint.specs.Decode.{Decoded, ends_early, malformed, decoded, decode}
use Rattle.refusal.specs.declared.refusal.Refusal.{Refusal}
use Rattle.refusal.specs.declared.refusal.Refusal.TheVariants.{EndsEarly, Malformed, CountOutside}
use Rattle.query.specs.Codes.{when}
use Rattle.query.specs.Limits.{within}

-- a value was taken, with the place and the bytes behind it; or a number was refused at its place
pub data Read (A : Type 0) : Type 0 where
  took : A → ℕ → List ℕ → Read A
  refused : Refusal → ℕ → Read A

-- from a place and the bytes from there on
abbrev pub Reader : Type 0 → Type 0
Reader A = ℕ → List ℕ → Read A

-- what was taken is handed on, a refusal stays
abbrev pub next : {A B : Type 0} → Read A → (A → ℕ → List ℕ → Read B) → Read B
next (took a at bytes) k = k a at bytes
next (refused r at) k = refused r at

-- the first number of bytes, at the place at
abbrev pub numbered : ℕ → List ℕ → Decoded → Read ℕ
numbered at bytes ends_early = refused EndsEarly at
numbered at bytes malformed = refused Malformed at
numbered at bytes (decoded n k) = took n (at + k) (drop k bytes)

-- a number
abbrev pub number : Reader ℕ
number at bytes = numbered at bytes (decode bytes)

-- what a number at the place at stands for, or its refusal
abbrev pub meant : {A : Type 0} → Refusal → ℕ → Option A → ℕ → List ℕ → Read A
meant r at None after bytes = refused r at
meant r at (Some a) after bytes = took a after bytes

-- a number that stands for something
abbrev pub role : {A : Type 0} → Refusal → (ℕ → Option A) → Reader A
role r f at bytes = next (number at bytes) (λ n after rest. meant r at (f n) after rest)

-- one part, put into another form
abbrev pub one : {A B : Type 0} → Reader A → (A → B) → Reader B
one p c at bytes = next (p at bytes) (λ a after rest. took (c a) after rest)

-- two parts, the second read in view of the first
abbrev pub both : {A B C : Type 0} → Reader A → (A → Reader B) → (A → B → C) → Reader C
both p q c at bytes = next (p at bytes) (λ a after rest. one (q a) (c a) after rest)

-- so many items; step says what the next one is read in view of
abbrev pub times : {S A : Type 0} → ℕ → (S → Reader A) → (S → A → S) → S → Reader (List A)
times zero item step s at bytes = took [] at bytes
times (suc n) item step s at bytes = both (item s) (λ a. times n item step (step s a)) ◌∷◌ at bytes

-- a count from low to high
abbrev pub count : ℕ → ℕ → Reader ℕ
count low high = role CountOutside (λ n. when (within low high n) n)

-- a count from low to high, and so many items
abbrev pub series : {S A : Type 0} → ℕ → ℕ → (S → Reader A) → (S → A → S) → S → Reader (List A)
series low high item step s = both (count low high) (λ n. times n item step s) (λ n xs. xs)
