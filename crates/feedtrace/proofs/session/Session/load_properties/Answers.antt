use Rattle.std.proofs.Common.{◌≡◌, ℕ, length, vec_items, Vec, refl, ap, ◌∙◌, ap₂, inl, rules}
use Rattle.std.specs.declared.alloc.Global.{Global}
use Rattle.triples.specs.declared.entry.DirectoryEntry.{DirectoryEntry}
use Rattle.triples.specs.declared.pair.Pair.{Pair}
use Rattle.triples.specs.Directory.{table_triples}
use Rattle.triples.specs.Meaning.{listed}
use Rattle.feedtrace.proofs.session.Session.load_properties.Goals as goal

pub returns : goal.returns
returns c =
    let made = c.in_ok-store.ensures in
    let store = c.in_ok-store.store in
    let entries : c.len-properties.result ≡ length (vec_items c.args.table.directory) = search rules in
    let count : c.len-pairs.result ≡ length (vec_items c.args.table.pairs) = search rules in
    rw (c.put.ensures, entries, count)
    (inl (
      made.0,
      refl,
      (
        store,
        (
          refl,
          ap (λ (n : ℕ). listed n (table_triples (vec_items store.directory) (vec_items store.pairs)))
              made.1
              ∙ ap₂ (λ (d : Vec DirectoryEntry Global) (v : Vec Pair Global). listed c.args.top
              (table_triples (vec_items d) (vec_items v))) made.2 made.3,
        ),
      ),
      record { queries = refl; book = refl; loading = refl },
    ))
