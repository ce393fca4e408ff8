-- The words are the parts between the spaces, and those that make a byte are kept as that byte.
use Rattle.std.proofs.Common.{◌==◌, ap, ◌∙◌, rules, tests}
use Rattle.std.proofs.lemmas.Iterator.{items_from_collect}
use Rattle.std.proofs.lemmas.Iterator.Consumers.{YieldsList-from_filter_map}
use Rattle.std.proofs.lemmas.Iterator.Splits.{YieldsList-from_slice_split}
use Rattle.std.specs.Iterator.Adapters.{filter_map_source}
use Rattle.std.specs.Slice.Iter.{split_callee, split_done, split_rest}
use Rattle.hex_text.specs.Characters.{space}
use Rattle.hex_text.specs.Words.{word_value}
use Rattle.hex_text.proofs.parse.bytes_of.Goals as goal

pub returns : goal.returns
returns c =
    let same = c.filter_map.ensures.source
    in items_from_collect _ c.collect.ensures.ran
    (YieldsList-from_filter_map _ word_value
    (YieldsList-from_slice_split {s = filter_map_source c.filter_map.result} _
    (λ b. b == space) c.args.text.now
    (ap split_rest same ∙ c.split.ensures.rest) (ap split_done same ∙ c.split.ensures.done)
    (ap split_callee same ∙ c.split.ensures.closure) (λ x b q k. search (rules, tests)))
    c.filter_map.ensures.closure (λ x r q k. search (rules, tests)))
