use Rattle.std.proofs.Common.{rules}
use Rattle.query.proofs.KindNumbers.{kind_decided}
use Rattle.query.proofs.kind.Kind.from_number.Goals as goal

pub returns : goal.returns
returns c =
    kind_decided c.args.number c.find.result (λ k is. search rules)
    (λ is. record {
      equal = λ e. search rules;
      less = λ e. search rules;
      bound = λ e. search rules;
      inverse = λ e. search rules;
      both = λ e. search rules;
      either = λ e. search rules;
    })
