use Rattle.std.proofs.Common.{Some, sym, subst, ⊎_elim, arith}
use Rattle.triples.specs.Rows.{RowsOutcome, accepted, over, outside, falls}
use Rattle.triples.proofs.Lexical.{rows_ascend, rows_fall}
use Rattle.triples.proofs.Refusals.{rejection_is}
use Rattle.triples.proofs.row_load.check.Goals as goal

pub returns-then-top-gt-LARGEST_TOP : goal.returns-then-top-gt-LARGEST_TOP
returns-then-top-gt-LARGEST_TOP c =
    subst (λ x. RowsOutcome c.args.top c.args.rows.now (Some x))
    (sym (rejection_is c.unplaced.result _ _ c.unplaced.ensures.0 c.unplaced.ensures.1))
    (over (λ l. ⊎_elim (λ a. let small = l.small in omega (arith, a, small))
    (λ b. let few = l.few in let many = b.1 in omega (arith, few, many))
    c.then-top-gt-LARGEST_TOP.either))

pub returns-in-Some : goal.returns-in-Some
returns-in-Some c =
    subst (λ x. RowsOutcome c.args.top c.args.rows.now (Some x))
    (sym (rejection_is c.at.result _ _ c.at.ensures.0 c.at.ensures.1))
    (outside c.in-Some.place
    (record { small = c.if-top-gt-LARGEST_TOP.false; few = c.if-rows-gt-MOST_TRIPLES.false })
    c.in-Some.ensures)

pub returns-in-Some-fall : goal.returns-in-Some-fall
returns-in-Some-fall c =
    let call = c.at-in-Some-fall in
    subst (λ x. RowsOutcome c.args.top c.args.rows.now (Some x))
    (sym (rejection_is call.result _ _ call.ensures.0 call.ensures.1))
    (falls c.in-Some-fall.place
    (record { small = c.if-top-gt-LARGEST_TOP.false; few = c.if-rows-gt-MOST_TRIPLES.false })
    c.in_default.ensures
    (rows_fall c.args.rows.now c.in-Some-fall.place c.in-Some-fall.ensures))

pub returns-in-None : goal.returns-in-None
returns-in-None c =
    accepted (record {
      limited = record { small = c.if-top-gt-LARGEST_TOP.false; few = c.if-rows-gt-MOST_TRIPLES.false };
      terms = c.in_default.ensures;
      ordered = rows_ascend c.args.rows.now c.in-None.ensures;
    })
