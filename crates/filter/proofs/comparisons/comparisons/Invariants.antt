-- The comparisons so far are read off, and the catalogue says and keeps what it did.
use Rattle.std.proofs.Common.{◌≡◌, map, length}
use Rattle.query.specs.Limits.{most_in_part}
use Rattle.filter.specs.Comparisons.{comparison, Agree}
use Rattle.filter.proofs.comparisons.comparisons.Given as goal

abbrev pub invariant-loop-number : goal.invariant-loop-number
invariant-loop-number g l =
    let entries = g.C.Catalogue.entries in record {
      long : length l.truths ≡ most_in_part;
      read : Agree l.number l.truths (map (comparison (entries l.initial.catalogue) l.row) l.nodes);
      same : entries l.catalogue ≡ entries l.initial.catalogue;
      kept : g.C.Catalogue.kept l.catalogue ≡ g.C.Catalogue.kept l.initial.catalogue;
    }
