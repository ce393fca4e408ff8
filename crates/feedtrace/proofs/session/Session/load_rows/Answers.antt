use Rattle.std.proofs.Common.{◌≡◌, ℕ, length, vec_items, Vec, refl, ap, ◌∙◌, inl, rules}
use Rattle.std.specs.declared.alloc.Global.{Global}
use Rattle.triples.specs.declared.triple.Triple.{Triple}
use Rattle.triples.specs.Meaning.{listed}
use Rattle.feedtrace.proofs.session.Session.load_rows.Goals as goal

pub returns : goal.returns
returns c =
    let made = c.in_ok-store.ensures in
    let store = c.in_ok-store.store in
    let count : c.len-triples.result ≡ length (vec_items c.args.rows) = search rules in
    rw (c.put.ensures, count)
    (inl (
      made.0,
      refl,
      (
        store,
        (
          refl,
          ap (λ (n : ℕ). listed n (vec_items store.rows)) made.1
              ∙ ap (λ (v : Vec Triple Global). listed c.args.top (vec_items v)) made.2,
        ),
      ),
      record { queries = refl; book = refl; loading = refl },
    ))
