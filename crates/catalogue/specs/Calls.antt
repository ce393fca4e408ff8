-- What the calls answer. Assumes nothing.
use Rattle.std.specs.Prelude.{◌≡◌, Some, None, Ok, Err, vec_items, Result, Vec}
use Rattle.std.specs.declared.alloc.Global.{Global}
use Rattle.refusal.specs.declared.declined.Declined.{Declined}
use Rattle.catalogue.specs.declared.listed.Listed.{Listed}
use Rattle.catalogue.specs.declared.record.Record.{Record}
use Rattle.catalogue.specs.Listing.{listed_outcome}

-- the records were taken and are held; or they were refused, with the reason, and are given back
abbrev pub Loaded : Vec Record Global → Result Listed (Declined (Vec Record Global)) → Type 0
Loaded records (Ok l) = (listed_outcome (vec_items records) ≡ None) × (l.records ≡ records)
Loaded records (Err d) = (listed_outcome (vec_items records) ≡ Some d.rejection) × (d.given ≡ records)
