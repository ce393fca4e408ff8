-- The published number of each refusal, which the console prints. Assumes nothing.
use Rattle.std.specs.Prelude.{ℕ}
use Rattle.refusal.specs.declared.refusal.Refusal.{Refusal}
use Rattle.refusal.specs.declared.refusal.Refusal.TheVariants.{OverLimit, DirectoryBroken, OutsideTerms}
use Rattle.refusal.specs.declared.refusal.Refusal.TheVariants.{NotAscending, RecordInvalid}
use Rattle.refusal.specs.declared.refusal.Refusal.TheVariants.{EndsEarly, Malformed, CountOutside, PlaceCode}
use Rattle.refusal.specs.declared.refusal.Refusal.TheVariants.{NodeInvalid, BytesLeft, SharedByBlocks}
use Rattle.refusal.specs.declared.refusal.Refusal.TheVariants.{AlreadyWithdrawn, NotStored, WithdrawnFull}
use Rattle.refusal.specs.declared.refusal.Refusal.TheVariants.{NotWithdrawn, PropertyOutside, BufferShort}

-- the number under which the refusal is known outside
abbrev pub published : Refusal → ℕ
published OverLimit = 1
published DirectoryBroken = 2
published OutsideTerms = 3
published NotAscending = 4
published RecordInvalid = 5
published EndsEarly = 11
published Malformed = 12
published CountOutside = 13
published PlaceCode = 14
published NodeInvalid = 15
published BytesLeft = 16
published SharedByBlocks = 17
published AlreadyWithdrawn = 21
published NotStored = 22
published WithdrawnFull = 23
published NotWithdrawn = 24
published PropertyOutside = 25
published BufferShort = 34
