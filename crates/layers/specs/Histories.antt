-- What can be withdrawn after a number of calls, and that restoring then puts a triple back. Assumes nothing.
--     After m gone     gone can be withdrawn where m is below, after some calls to withdraw and restore
use Rattle.std.specs.Prelude.{◌≡◌, true, List, [], is_ok, Result}
use Rattle.refusal.specs.declared.rejection.Rejection.{Rejection}
use Rattle.triples.specs.declared.triple.Triple.{Triple}
use Rattle.triples.specs.Meaning.{Meaning}
use Rattle.layers.specs.Withdrawals.{without, amended, Withdraws, Restores}

-- gone is withdrawn after some calls, the first of them to a layer from which nothing is withdrawn. Between
-- them the layer may be asked: that changes neither m nor gone
pub data After (m : Meaning) : List Triple → Type 0 where
  none : After m []
  withdrawing : (gone later : List Triple) (t : Triple) (r : Result (Unit {0}) Rejection)
      → After m gone → Withdraws m gone t r later → After m later
  restoring : (gone later : List Triple) (t : Triple) (r : Result (Unit {0}) Rejection)
      → After m gone → Restores m gone t r later → After m later

-- after any calls, a triple that is restored is there again, and nothing else changes
abbrev pub RestoredIsThere : Type 0
RestoredIsThere =
    (m : Meaning) (gone later : List Triple) (t : Triple) (r : Result (Unit {0}) Rejection)
    → After m gone → Restores m gone t r later → is_ok r ≡ true
    → without m later ≡ amended (without m gone) t true
