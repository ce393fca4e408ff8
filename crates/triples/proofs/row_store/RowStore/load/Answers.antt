use Rattle.std.proofs.Common.{List, Some, None, Vec, Global, Result, MatchResult, sym, subst, arith}
use Rattle.refusal.specs.declared.rejection.Rejection.{Rejection}
use Rattle.triples.specs.declared.triple.Triple.{Triple}
use Rattle.triples.specs.Rows.{RowsLawful, RowsOutcome}
use Rattle.triples.proofs.Rows.{rows_accepted}
use Rattle.triples.proofs.row_store.RowStore.load.Goals as goal

pub invariant_of-result : goal.invariant_of-result
invariant_of-result c =
    let given = c.in_ok-rows.ensures in
    let outcome = subst
    (λ (r : Result (Unit {0}) Rejection). MatchResult r (λ _. RowsOutcome c.args.top c.deref.result.now None)
    (λ e. RowsOutcome c.args.top c.deref.result.now (Some e))) given.0 c.check.ensures in
    let lawful = subst (λ (v : Vec Triple Global). RowsLawful c.args.top v.items) (sym given.1)
    (subst (λ (ts : List Triple). RowsLawful c.args.top ts) c.deref.ensures.value
    (rows_accepted c.args.top c.deref.result.now outcome)) in
    let few = lawful.limited.few in
    let len = c.in_ok-rows.rows.ok.0 in
    record {
      small = lawful.limited.small;
      few = omega (arith, few, len);
      terms = lawful.terms;
      ordered = lawful.ordered;
    }
