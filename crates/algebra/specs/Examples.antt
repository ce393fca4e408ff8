-- Worked examples: numbers, seeks, and queries by their bytes over a small store. Assumes nothing.
use Rattle.std.specs.Prelude.{◌≡◌, ℕ, [], ◌∷◌, length, Some, None}
use Rattle.refusal.specs.declared.refusal.Refusal.TheVariants.{Malformed, SharedByBlocks}
use Rattle.refusal.specs.Numbers.{published}
use Rattle.varint.specs.Encode.{encode}
use Rattle.varint.specs.Decode.{decode, decoded, malformed}
use Rattle.query.specs.Grammar.{verdict, rejected}
use Rattle.query.specs.Readers.{refused, number}
use Rattle.triples.specs.Seeks.{Sought}
use Rattle.filter.specs.Rows.{Row}
use Rattle.algebra.specs.Admissions.{every_term, look_ahead}
use Rattle.algebra.specs.Patterns.{blank, with_value}
use Rattle.algebra.specs.Answers.{Answer}
use Rattle.algebra.specs.Walk.{try, answer}
use Rattle.algebra.specs.Deliveries.{triple, selector, deliveries, onward, kept_back, onward_by_less}
use Rattle.algebra.specs.Deliveries.{went_into, in_two_steps, into_in_two_steps, apart, from_where_and_onward}
use Rattle.algebra.specs.Deliveries.{nothing_asked, asked_twice, shared}
use Rattle.algebra.specs.Packing.{packed}
use Rattle.algebra.specs.Deliveries.{of_bytes, walked, tries, packed_answers, defined}

-- variable 0 is batch 2, variable 1 is farm 6
abbrev pub first_batch_at_farm : Row
first_batch_at_farm = 2 ∷ 6 ∷ 0 ∷ 0 ∷ 0 ∷ 0 ∷ 0 ∷ 0 ∷ 0 ∷ 0 ∷ 0 ∷ 0 ∷ 0 ∷ 0 ∷ 0 ∷ 0 ∷ []

-- variable 0 is batch 2
abbrev pub first_batch_alone : Row
first_batch_alone = 2 ∷ 0 ∷ 0 ∷ 0 ∷ 0 ∷ 0 ∷ 0 ∷ 0 ∷ 0 ∷ 0 ∷ 0 ∷ 0 ∷ 0 ∷ 0 ∷ 0 ∷ 0 ∷ []

-- variable 0 is batch 3
abbrev pub second_batch_alone : Row
second_batch_alone = 3 ∷ 0 ∷ 0 ∷ 0 ∷ 0 ∷ 0 ∷ 0 ∷ 0 ∷ 0 ∷ 0 ∷ 0 ∷ 0 ∷ 0 ∷ 0 ∷ 0 ∷ 0 ∷ []

-- variable 0 is farm 6
abbrev pub farm_alone : Row
farm_alone = 6 ∷ 0 ∷ 0 ∷ 0 ∷ 0 ∷ 0 ∷ 0 ∷ 0 ∷ 0 ∷ 0 ∷ 0 ∷ 0 ∷ 0 ∷ 0 ∷ 0 ∷ 0 ∷ []

-- an answer of alternative a
abbrev pub in_alternative : ℕ → Row → Answer
in_alternative a r = record { alternative = a; row = r }

-- the examples, each named by what it shows
pub record WorkedExamples : Type 0 where
  -- 300 is AC 02: two groups of seven bits, the lowest first
  pub two_bytes_written : encode 300 ≡ 0xAC ∷ 0x02 ∷ []
  pub two_bytes_read : decode (0xAC ∷ 0x02 ∷ []) ≡ decoded 300 2
  -- 1,000,000 is C0 84 3D
  pub three_bytes_written : encode 1_000_000 ≡ 0xC0 ∷ 0x84 ∷ 0x3D ∷ []
  pub three_bytes_read : decode (0xC0 ∷ 0x84 ∷ 0x3D ∷ []) ≡ decoded 1_000_000 3
  -- FF FF FF FF 0F is 4,294,967,295, the largest number of 32 bits
  pub largest_written : encode 4_294_967_295 ≡ 0xFF ∷ 0xFF ∷ 0xFF ∷ 0xFF ∷ 0x0F ∷ []
  pub largest_read : decode (0xFF ∷ 0xFF ∷ 0xFF ∷ 0xFF ∷ 0x0F ∷ []) ≡ decoded 4_294_967_295 5
  -- FF FF FF FF 10 would be larger: it is malformed, which a reader of queries refuses by the number 12
  pub larger_malformed : decode (0xFF ∷ 0xFF ∷ 0xFF ∷ 0xFF ∷ 0x10 ∷ []) ≡ malformed
  pub larger_refused : number 0 (0xFF ∷ 0xFF ∷ 0xFF ∷ 0xFF ∷ 0x10 ∷ []) ≡ refused Malformed 0
  pub malformed_published : published Malformed ≡ 12
  -- a seek for property 4 that starts at a triple with it finds that triple
  pub seek_finds_its_start :
      Sought deliveries.has (selector 0 4 0) (triple 1 4 3) (Some (triple 1 4 3))
  -- after the last triple with property 4 there is none, though a triple with property 5 follows
  pub seek_finds_none_after_the_last : Sought deliveries.has (selector 0 4 0) (triple 1 4 4) None
  -- batch 2 is tried and then farm 6, which gives an answer; batch 3 is tried, nothing is worth a try for
  -- where it went on to, and the row goes on without
  pub block_extends_or_is_left : of_bytes (walked look_ahead) onward
      ≡ Some (try 0 2 ∷ try 1 6 ∷ answer (in_alternative 0 first_batch_at_farm)
      ∷ try 0 3 ∷ answer (in_alternative 0 second_batch_alone) ∷ [])
  -- the two answers as bytes: alternative 0, variables 0 and 1 (mask 3), their values 2 and 6; alternative 0,
  -- variable 0 (mask 1), its value 3
  pub answers_packed : of_bytes (packed_answers look_ahead) onward
      ≡ Some ((0x00 ∷ 0x03 ∷ 0x02 ∷ 0x06 ∷ []) ∷ (0x00 ∷ 0x01 ∷ 0x03 ∷ []) ∷ [])
  -- the algebra gives the rows that the walk lists, here in the same order
  pub algebra_gives_the_rows_walked : of_bytes defined onward
      ≡ Some (in_alternative 0 first_batch_at_farm ∷ in_alternative 0 second_batch_alone ∷ [])
  -- where every term is tried, there are six tries for variable 0, and six for variable 1 after each of the
  -- two batches
  pub every_term_tried : of_bytes (tries every_term) onward ≡ Some 18
  -- six tries for variable 0 and six after each of them; looking ahead, lot 1 and its two batches
  pub every_pair_tried : of_bytes (tries every_term) went_into ≡ Some 42
  pub only_what_matches_tried : of_bytes (tries look_ahead) went_into ≡ Some 3
  -- the filter asks that variable 1 has no value: the row that a block extended does not pass it
  pub extended_row_filtered : of_bytes (packed_answers look_ahead) kept_back
      ≡ Some ((0x00 ∷ 0x01 ∷ 0x03 ∷ []) ∷ [])
  -- two required triples share a variable, and all of one solution must be there at once
  pub two_triples_joined : of_bytes (packed_answers look_ahead) in_two_steps
      ≡ Some ((0x00 ∷ 0x07 ∷ 0x01 ∷ 0x02 ∷ 0x06 ∷ []) ∷ [])
  -- looking ahead, each triple of a part matches by itself: lot 1 is tried, since it went into something and
  -- something went into something; that nothing went on from there is found when variable 1 is tried
  pub triples_tested_apart : of_bytes (walked look_ahead) into_in_two_steps ≡ Some (try 0 1 ∷ [])
  -- looking ahead, a triple without the variable is tested too: nothing went on to batch 3
  pub triple_without_the_variable_tested : of_bytes (walked look_ahead) apart ≡ Some []
  -- two blocks: the row for which the first has no fit goes on to the second
  pub each_block_by_itself : of_bytes (packed_answers look_ahead) from_where_and_onward
      ≡ Some ((0x00 ∷ 0x07 ∷ 0x02 ∷ 0x06 ∷ 0x01 ∷ []) ∷ (0x00 ∷ 0x05 ∷ 0x03 ∷ 0x01 ∷ []) ∷ [])
  -- alternative 1, variable 7 alone (mask 80 01), whose value is 300 (AC 02)
  pub long_numbers_packed : packed (in_alternative 1 (with_value blank 7 300))
      ≡ 0x01 ∷ 0x80 ∷ 0x01 ∷ 0xAC ∷ 0x02 ∷ []
  -- the row that a block leaves as it is goes on after all the tries of the block, of which none fits
  pub left_out_after_the_tries : of_bytes (walked look_ahead) onward_by_less
      ≡ Some (try 0 2 ∷ try 1 6 ∷ answer (in_alternative 0 first_batch_alone)
      ∷ try 0 3 ∷ answer (in_alternative 0 second_batch_alone) ∷ [])
  -- an error in a block's filter is no fit: both rows go on without the block
  pub error_leaves_the_row : of_bytes defined onward_by_less
      ≡ Some (in_alternative 0 first_batch_alone ∷ in_alternative 0 second_batch_alone ∷ [])
  -- a query that asks nothing has one answer, the row without values, and no tries
  pub nothing_asked_answered_once : of_bytes (walked every_term) nothing_asked
      ≡ Some (answer (in_alternative 0 blank) ∷ [])
  pub blank_row_packed : of_bytes (packed_answers every_term) nothing_asked ≡ Some ((0x00 ∷ 0x00 ∷ []) ∷ [])
  -- two equal alternatives have the same row once in each
  pub same_row_once_in_each : of_bytes defined asked_twice
      ≡ Some (in_alternative 0 farm_alone ∷ in_alternative 1 farm_alone ∷ [])
  -- a variable of two blocks that nothing requires is refused, at the end of the bytes, by the number 17
  pub shared_refused : verdict shared ≡ rejected SharedByBlocks (length shared)
  pub shared_published : published SharedByBlocks ≡ 17
