-- A refusal as text. Assumes nothing.
use Rattle.std.specs.Prelude.{ℕ, List, ◌++◌, codes, decimal}
use Rattle.refusal.specs.declared.rejection.Rejection.{Rejection}
use Rattle.refusal.specs.Numbers.{published}

-- the published number of the refusal, and its place
abbrev pub rejection_text : Rejection → List ℕ
rejection_text r = decimal (published r.refusal) ++ (codes " at " ++ decimal r.place)
