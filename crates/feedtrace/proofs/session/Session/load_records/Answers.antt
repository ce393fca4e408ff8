use Rattle.std.proofs.Common.{◌≡◌, length, vec_items, Vec, refl, ap, inl, rules}
use Rattle.std.specs.declared.alloc.Global.{Global}
use Rattle.catalogue.specs.declared.record.Record.{Record}
use Rattle.feedtrace.proofs.session.Session.load_records.Goals as goal

pub returns : goal.returns
returns c =
    let made = c.in_ok-catalogue.ensures in
    let count : c.len-count.result ≡ length (vec_items c.args.records) = search rules in
    rw count
    (inl (
      made.0,
      refl,
      (c.in_ok-catalogue.catalogue, (refl, ap (λ (v : Vec Record Global). vec_items v) made.1)),
      record { queries = refl; store = refl; loading = refl },
    ))
