-- What the catalogues say of each number is proper; their ghost members cite the proofs. Assumes nothing.
use Rattle.std.specs.Prelude.{◌≡◌, ℕ, suc, ◌-◌, ◌≤◌, Bool, true, false, ◌&&◌, leb, List, length, ℤ, pos}
use Rattle.std.specs.Prelude.{negsuc, Some, None, Option, nat_le, slice_index_or, refl}
use Rattle.std.proofs.Common.{arith}
use Rattle.std.proofs.lemmas.Bool.{and_from, and_parts, cond_both, le-leb, leb-true}
use Rattle.std.specs.Option.{unwrap_or}
use Rattle.std.specs.Bool.{then_some}
use Rattle.catalogue.specs.declared.kind.Kind.{Kind}
use Rattle.catalogue.specs.declared.kind.Kind.TheVariants.{Integer}
use Rattle.catalogue.specs.declared.record.Record.{Record}
use Rattle.catalogue.specs.Entries.{Entry, is_proper, largest, Proper, unlisted}
use Rattle.catalogue.specs.Inlining.{first_integer, inlined, integer_at, last_integer, zero_at}
use Rattle.catalogue.specs.Kinds.{kind_from}
use Rattle.catalogue.specs.Listing.{listed_entry}
use Rattle.catalogue.specs.Records.{entry_from, no_record, spelled}

-- e is proper where the test that keeps it says so, and what stands in for it is proper
kept_proper : (test : Bool) (e : Entry) → (test ≡ true → Proper e)
    → Proper (unwrap_or (then_some test e) unlisted)
kept_proper true e holds = holds refl
kept_proper false e holds = refl

-- the entry of a kind and a value is proper, and so is what stands in where there is none
entry_proper : (kind : Option Kind) (value : ℤ) → Proper (unwrap_or (entry_from kind value) unlisted)
entry_proper None value = refl
entry_proper (Some k) value =
    let e : Entry = record { kind = k; value = value } in
    kept_proper (is_proper e) e (λ holds. holds)

-- what a list of records says of a number is proper
pub listed_proper : (records : List Record) (n : ℕ) → Proper (listed_entry records n)
listed_proper records n =
    let r : Record = slice_index_or records (n - 1) no_record in
    cond_both (nat_le 1 n && nat_le n (length records)) (spelled r) unlisted Proper
    (λ _. entry_proper (kind_from r.kind) r.value)
    (λ _. refl)

-- an integer computed from a number up to the last is proper
integer_proper : (n : ℕ) → n ≤ last_integer → Proper (integer_at n)
integer_proper n small =
    let near : leb (zero_at - suc n) largest ≡ true = le-leb (zero_at - suc n) largest (omega arith) in
    cond_both (nat_le (suc n) zero_at) (negsuc (zero_at - suc n)) (pos (n - zero_at))
    (λ x. Proper (record { kind = Integer; value = x }))
    (λ _. and_from (nat_le (zero_at - suc n) largest) true near refl)
    (λ _. le-leb (n - zero_at) largest (omega arith))

-- what is computed from a number is proper
pub inlined_proper : (n : ℕ) → Proper (inlined n)
inlined_proper n =
    cond_both (nat_le first_integer n && nat_le n last_integer) (integer_at n) unlisted Proper
    (λ among. integer_proper n (leb-true n last_integer (and_parts _ _ among).1))
    (λ _. refl)
