-- What going from one match to the next does. Assumes nothing.
use Rattle.std.specs.Prelude.{◌≡◌, ℕ, ◌+◌, ◌-◌, ◌*◌, ◌^◌, min, Option, MatchOption}
use Rattle.triples.specs.declared.matches.Matches.{Matches}
use Rattle.triples.specs.declared.triple.Triple.{Triple}
use Rattle.triples.specs.Meaning.{Meaning, largest_top}
use Rattle.triples.specs.Seeks.{Sought}
use Rattle.triples.specs.Succession.{behind}

-- n, or one more than any term where n is over that
abbrev pub capped : ℕ → ℕ
capped n = min n (largest_top + 1)

-- a number that rises as triples of a store ascend
abbrev pub rank : Triple → ℕ
rank t = capped t.subject * 2 ^ 64 + capped t.property * 2 ^ 32 + capped t.object

-- how far a rank can still rise
abbrev pub ahead : Triple → ℕ
ahead t = 2 ^ 100 - rank t

-- the store is the same reference, means what it meant and keeps what it kept; the match given is the least
-- from the start on, and the start is then right behind it; or there is none, and the start stays
pub record Advances {S K : Type 0} (meaning : S → Meaning) (kept : S → K) (old : Matches S)
    (r : Option Triple) (new : Matches S) : Type 0 where
  pub reference : new.store.ghost_name ≡ old.store.ghost_name
  pub same : meaning new.store.now ≡ meaning old.store.now
  pub keeps : kept new.store.now ≡ kept old.store.now
  pub selector : new.selector ≡ old.selector
  pub answer : Sought (meaning old.store.now).has old.selector old.start r
  pub start : MatchOption r (new.start ≡ old.start) (λ t. new.start ≡ behind t)
