-- The published number of each kind. Assumes nothing.
use Rattle.std.specs.Prelude.{◌≡◌, ℕ, List, [], ◌∷◌, Some, None, Option, codes, find, ◌==◌, ◌≢◌}
use Rattle.catalogue.specs.declared.kind.Kind.{Kind}
use Rattle.catalogue.specs.declared.kind.Kind.TheVariants.{Name, Text, Integer}

-- the number under which the kind is known outside
abbrev pub published : Kind → ℕ
published Name = 1
published Text = 2
published Integer = 3

-- the kind whose published number is n; none where no kind has it
abbrev pub kind_from : ℕ → Option Kind
kind_from n = find (λ k. published k == n) (Name ∷ Text ∷ Integer ∷ [])

-- the name of the kind, as it is shown
abbrev pub name_of : Kind → List ℕ
name_of Name = codes "name"
name_of Text = codes "text"
name_of Integer = codes "integer"

-- r is a kind whose published number is n, or none, and no kind has that number
abbrev pub Numbered : ℕ → Option Kind → Type 0
Numbered n (Some k) = published k ≡ n
Numbered n None = (k : Kind) → published k ≢ n
