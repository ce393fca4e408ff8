use Rattle.std.proofs.Common.{false, arith, rules, tests}
use Rattle.query.specs.Variables.{member}
use Rattle.query.proofs.Sets.{from_fn_each}
use Rattle.query.proofs.variables.VariableSet.zip_with.Goals as goal

pub returns : goal.returns
returns g c f does v l =
    let a = c.args.self.now in
    let b = c.args.other.now in
    from_fn_each (λ v. f (member v a) (member v b)) 16 (λ i y q l k. search (rules, tests, does))
    c.from_fn.result 16 0
    (omega arith) c.from_fn.ensures.items.each v false (omega arith) l
