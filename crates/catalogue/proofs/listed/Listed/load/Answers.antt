-- Where the records are not refused, none of them is invalid.
use Rattle.std.proofs.Common.{◌≡◌, ◌≤◌, Bool, true, false, cond, not, List, [], ◌∷◌, length, Some}
use Rattle.std.proofs.Common.{None, refl, sym, subst, arith, Result, MatchResult, Vec, Global}
use Rattle.refusal.specs.declared.rejection.Rejection.{Rejection}
use Rattle.std.proofs.lemmas.Bool.{ltb-false}
use Rattle.std.proofs.lemmas.Bool.Decides.{nat_tests}
use Rattle.std.specs.List.{list_all, position_or_len}
use Rattle.std.specs.Option.{option_map}
use Rattle.catalogue.specs.declared.record.Record.{Record}
use Rattle.catalogue.specs.Listing.{listed_outcome}
use Rattle.catalogue.specs.Records.{all_valid, valid}
use Rattle.catalogue.proofs.listed.Listed.load.Goals as goal

-- a refusal that is none is for neither reason
none_parts : {A B : Type 0} (long found : Bool) (a : B) (f : A → B) (place : A)
    → cond long (Some a) (option_map f (cond found (Some place) None)) ≡ None → found ≡ false
none_parts long found a f place e = grind (arith, nat_tests)

-- where no element fails p, each passes it
all_from_none : {X : Type 0} (p : X → Bool) (xs : List X)
    → length xs ≤ position_or_len (λ x. not (p x)) xs → list_all p xs ≡ true
all_from_none p [] h = refl
all_from_none p (x ∷ xs) h = grind (arith, nat_tests, all_from_none p xs)

-- where a list is not refused, each of its records is valid
valid_from_none : (records : List Record) → listed_outcome records ≡ None → all_valid records ≡ true
valid_from_none records e = all_from_none valid records (ltb-false _ _ (none_parts _ _ _ _ _ e))

pub invariant_of-result-clause-sound : goal.invariant_of-result-clause-sound
invariant_of-result-clause-sound c =
    let given = c.in_ok-records.ensures in
    let judged = subst
    (λ (r : Result (Unit {0}) Rejection). MatchResult r (λ _. listed_outcome c.deref.result.now ≡ None)
    (λ e. listed_outcome c.deref.result.now ≡ Some e)) given.0 c.check.ensures in
    subst (λ (v : Vec Record Global). all_valid v.items ≡ true) (sym given.1)
    (subst (λ (rs : List Record). all_valid rs ≡ true) c.deref.ensures.value
    (valid_from_none c.deref.result.now judged))
