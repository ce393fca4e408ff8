-- The worked examples of filters hold of the definitions. Assumes nothing.
use Rattle.std.proofs.Common.{refl}
use Rattle.filter.specs.Examples.{FilterExamples}

pub examples_hold : FilterExamples
examples_hold = record {
  equal_without_value = refl;
  equal_without_values = refl;
  less_without_value = refl;
  equal_values = refl;
  other_values = refl;
  two_texts = refl;
  one_text = refl;
  integer_and_text = refl;
  text_and_integer = refl;
  one_name = refl;
  smaller_value = refl;
  greater_value = refl;
  value_not_less_than_itself = refl;
  less_of_texts = refl;
  less_of_integer_and_text = refl;
  less_of_names = refl;
  with_value = refl;
  without_value = refl;
  not_true = refl;
  not_false = refl;
  not_error = refl;
  true_and_true = refl;
  true_and_false = refl;
  true_and_error = refl;
  false_and_true = refl;
  false_and_false = refl;
  false_and_error = refl;
  error_and_true = refl;
  error_and_false = refl;
  error_and_error = refl;
  one_node_and_itself = refl;
  true_or_true = refl;
  true_or_false = refl;
  true_or_error = refl;
  false_or_true = refl;
  false_or_false = refl;
  false_or_error = refl;
  error_or_true = refl;
  error_or_false = refl;
  error_or_error = refl;
  one_node_or_itself = refl;
  last_node_counts = refl;
  error_not_passed = refl;
  false_not_passed = refl;
  true_passed = refl;
  no_nodes = refl;
}
