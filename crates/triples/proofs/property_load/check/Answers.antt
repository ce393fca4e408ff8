use Rattle.std.proofs.Common.{Some, sym, ◌∙◌, subst, ⊎_elim, arith}
use Rattle.std.proofs.lemmas.Bool.Decides.{nat_tests}
use Rattle.triples.specs.Sections.{TableLimited, DirectoryWhole, TableOutcome}
use Rattle.triples.specs.Sections.{accepted, over, broken, unowned, outside, falls}
use Rattle.triples.proofs.Refusals.{rejection_is}
use Rattle.triples.proofs.property_load.check.Goals as goal
use Rattle.triples.proofs.property_load.check.Goals.{After-first_broken, In_default}
use Rattle.triples.proofs.property_load.check.Goals.{else-is_empty-via-then-is_empty+else-not-is_empty}
use Rattle.triples.proofs.property_load.check.Goals.{else-is_empty-via-else-is_empty}

limited : (c : goal.After-first_broken) → TableLimited c.args.top c.args.directory.now
    c.args.pairs.now
limited c = record {
  small = c.if-top-gt-LARGEST_TOP.false;
  few_entries = c.if-directory-gt-MOST_ENTRIES.false;
  few_pairs = c.if-pairs-gt-MOST_PAIRS.false;
}

whole : (c : goal.In_default) → DirectoryWhole c.args.top c.args.directory.now c.args.pairs.now
whole c = record {
  good = c.in_default.ensures;
  owned = elim c.else-is_empty.branch [
    | else-is_empty-via-then-is_empty+else-not-is_empty w ↦ λ e.
        let none = w.if-not-is_empty.false in grind (arith, nat_tests)
    | else-is_empty-via-else-is_empty w ↦ λ e. let some = w.if-is_empty.false in grind (arith, nat_tests)
  ];
}

pub returns-then-top-gt-LARGEST_TOP : goal.returns-then-top-gt-LARGEST_TOP
returns-then-top-gt-LARGEST_TOP c =
    subst (λ x. TableOutcome c.args.top c.args.directory.now c.args.pairs.now (Some x))
    (sym (rejection_is c.unplaced.result _ _ c.unplaced.ensures.0 c.unplaced.ensures.1))
    (over (λ l. ⊎_elim (λ a. let small = l.small in omega (arith, a, small))
    (⊎_elim (λ b. let few = l.few_entries in let many = b.1 in omega (arith, few, many))
    (λ b. let few = l.few_pairs in let many = b.2 in omega (arith, few, many)))
    c.then-top-gt-LARGEST_TOP.either))

pub returns-then-not-is_empty : goal.returns-then-not-is_empty
returns-then-not-is_empty c =
    let call = c.unplaced-then-not-is_empty in
    subst (λ x. TableOutcome c.args.top c.args.directory.now c.args.pairs.now (Some x))
    (sym (rejection_is call.result _ _ call.ensures.0 call.ensures.1))
    (unowned (record {
      small = c.if-top-gt-LARGEST_TOP.false;
      few_entries = c.if-directory-gt-MOST_ENTRIES.false;
      few_pairs = c.if-pairs-gt-MOST_PAIRS.false;
    }) (let none = c.if-is_empty.true in grind (arith, nat_tests))
    (let some = c.if-not-is_empty.true in grind (arith, nat_tests)))

pub returns-in-Some : goal.returns-in-Some
returns-in-Some c =
    subst (λ x. TableOutcome c.args.top c.args.directory.now c.args.pairs.now (Some x))
    (sym (rejection_is c.at.result _ _ c.at.ensures.0 c.at.ensures.1))
    (broken c.in-Some.entry (limited (goal.at.returns-in-Some c).After-first_broken) c.in-Some.ensures)

pub returns-in-Some-first_outside : goal.returns-in-Some-first_outside
returns-in-Some-first_outside c =
    let call = c.at-in-Some-first_outside in
    subst (λ x. TableOutcome c.args.top c.args.directory.now c.args.pairs.now (Some x))
    (sym (rejection_is call.result _ _ call.ensures.0 call.ensures.1))
    (outside c.in-Some-first_outside.place
    (limited (goal.at.returns-in-Some-first_outside c).After-first_broken)
    (whole (goal.at.returns-in-Some-first_outside c).In_default) c.in-Some-first_outside.ensures)

pub returns-in-Some-fall_in_entry : goal.returns-in-Some-fall_in_entry
returns-in-Some-fall_in_entry c =
    let call = c.at-in-Some-fall_in_entry in
    let fallen = c.in-Some-fall_in_entry.ensures in
    subst (λ x. TableOutcome c.args.top c.args.directory.now c.args.pairs.now (Some x))
    (sym (rejection_is call.result _ _ call.ensures.0 (call.ensures.1 ∙ fallen.is)))
    (falls fallen.entry fallen.place
    (limited (goal.at.returns-in-Some-fall_in_entry c).After-first_broken)
    (whole (goal.at.returns-in-Some-fall_in_entry c).In_default) c.in_default-first_outside.ensures
    fallen.inside fallen.falls)

pub returns-in-None : goal.returns-in-None
returns-in-None c =
    accepted (record {
      limited = limited (goal.at.returns-in-None c).After-first_broken;
      whole = whole (goal.at.returns-in-None c).In_default;
      terms = c.in_default-first_outside.ensures;
      ordered = c.in-None.ensures;
    })
