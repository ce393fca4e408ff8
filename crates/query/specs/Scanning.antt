-- What reading the parts of a query does to a cursor and a builder. Assumes nothing.
--     ahead p c        what the reader p makes of the bytes from the cursor c on
--     Reads m r c      r and the cursor c after it are what m says
--     Takes m r c K    the part that m says came in, and K holds of it; or r is the refusal that m says
use Rattle.std.specs.Prelude.{◌≡◌, ℕ, List, [], ◌∷◌, ◌++◌, length, Ok, Err, Result}
use Rattle.refusal.specs.declared.rejection.Rejection.{Rejection}
use Rattle.query.specs.declared.builder.Builder.{Builder}
use Rattle.query.specs.declared.cursor.Cursor.{Cursor}
use Rattle.query.specs.declared.pattern.TriplePattern.{TriplePattern}
use Rattle.query.specs.Parts.{Part, Group}
use Rattle.query.specs.Grammar.{Used, accepted, rejected, verdict}
use Rattle.query.specs.Readers.{Read, took, refused, Reader}
use Rattle.query.specs.Grammar.{triples, filter, block, blocks, alternative, alternatives, unused}
use Rattle.query.specs.Grammar.{with_triples, with_nodes, with_part, with_parts, with_group}
use Rattle.query.specs.Drafts.{Draft, with_triples_in, with_nodes_in, finished}
use Rattle.query.specs.Building.{Tracks, used_of}

-- what the reader makes of the bytes from the cursor on
abbrev pub ahead : {A : Type 0} → Reader A → Cursor → Read A
ahead p c = p c.at c.rest.now

-- the value, with the cursor behind it; or the refusal with its place
abbrev pub Reads : {A : Type 0} → Read A → Result A Rejection → Cursor → Type 0
Reads m (Ok a) c = m ≡ took a c.at c.rest.now
Reads m (Err e) c = m ≡ refused e.refusal e.place

-- a part of which K holds, with the cursor behind it; or the refusal with its place
abbrev pub Takes : {A T : Type 0} → Read A → Result T Rejection → Cursor → (A → Type 0) → Type 0
Takes {A} m (Ok _) c K = (a : A) × ((m ≡ took a c.at c.rest.now) × K a)
Takes m (Err e) c K = m ≡ refused e.refusal e.place

-- the builder tracks the draft and has counted so much
pub record Holds (b : Builder) (d : Draft) (u : Used) : Type 0 where
  pub tracks : Tracks b d
  pub used : used_of b ≡ u

-- From the builder b and the cursor c to b' and c', with the result r, a part was read.

-- at least low triples
abbrev pub TookTriples : {T : Type 0} → ℕ → Builder → Cursor → Result T Rejection → Builder → Cursor → Type 0
TookTriples low b c r b' c' = (d : Draft) → Tracks b d
    → Takes (ahead (triples low b.triples.total) c) r c'
    (λ ts. Holds b' (with_triples_in d ts) (with_triples (used_of b) (length ts)))

-- a filter
abbrev pub TookFilter : {T : Type 0} → Builder → Cursor → Result T Rejection → Builder → Cursor → Type 0
TookFilter b c r b' c' = (d : Draft) → Tracks b d
    → Takes (ahead (filter b.nodes.total) c) r c'
    (λ ns. Holds b' (with_nodes_in d ns) (with_nodes (used_of b) (length ns)))

-- a block of an alternative
abbrev pub TookBlock : {T : Type 0} → Builder → Cursor → Result T Rejection → Builder → Cursor → Type 0
TookBlock b c r b' c' = (done : List Group) (required : List TriplePattern) (before : List Part)
    → Tracks b (finished done required before)
    → Takes (ahead (block (used_of b)) c) r c'
    (λ p. Holds b' (finished done required (before ++ p ∷ [])) (with_part (used_of b) p))

-- the blocks of an alternative
abbrev pub TookBlocks : {T : Type 0} → Builder → Cursor → Result T Rejection → Builder → Cursor → Type 0
TookBlocks b c r b' c' = (done : List Group) (required : List TriplePattern)
    → Tracks b (finished done required [])
    → Takes (ahead (blocks (used_of b)) c) r c'
    (λ bs. Holds b' (finished done required bs) (with_parts (used_of b) bs))

-- an alternative
abbrev pub TookAlternative : {T : Type 0} → Builder → Cursor → Result T Rejection → Builder → Cursor → Type 0
TookAlternative b c r b' c' = (done : List Group) → Tracks b (finished done [] [])
    → Takes (ahead (alternative (used_of b)) c) r c'
    (λ g. Holds b' (finished (done ++ g ∷ []) [] []) (with_group (used_of b) g))

-- the alternatives of a query, from a fresh builder
abbrev pub TookAlternatives : {T : Type 0} → Builder → Cursor → Result T Rejection → Builder → Cursor
    → Type 0
TookAlternatives b c r b' c' = Holds b (finished [] [] []) unused
    → Takes (ahead alternatives c) r c' (λ q. Tracks b' (finished q [] []))

-- the byte string is a query, and the builder tracks it; or it is refused
abbrev pub Scanned : {T : Type 0} → List ℕ → Result T Rejection → Builder → Type 0
Scanned bytes (Ok _) b = (q : List Group) × ((verdict bytes ≡ accepted q) × Tracks b (finished q [] []))
Scanned bytes (Err e) b = verdict bytes ≡ rejected e.refusal e.place
