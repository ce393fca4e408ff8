-- Worked examples of filters: each rule once, over a small catalogue. Assumes nothing.
use Rattle.std.specs.Prelude.{◌≡◌, ℕ, true, false, ℤ, pos, negsuc, List, [], ◌∷◌, slice_index_or}
use Rattle.catalogue.specs.declared.kind.Kind.TheVariants.{Text, Integer}
use Rattle.catalogue.specs.Entries.{Entry, unlisted}
use Rattle.query.specs.declared.node.Node as node
use Rattle.query.specs.declared.node.Node.TheVariants.{Equal, Less, Bound, Not, And, Or}
use Rattle.query.specs.declared.place.Place.TheVariants.{Variable, Term}
use Rattle.filter.specs.declared.truth.Truth.{Truth}
use Rattle.filter.specs.declared.truth.Truth.TheVariants.{False, True, Error}
use Rattle.filter.specs.Rows.{Row}
use Rattle.filter.specs.Filters.{filter_truth, passes}

-- an integer of the value
abbrev pub integer : ℤ → Entry
integer value = record { kind = Integer; value = value }

-- a text
abbrev pub text : Entry
text = record { kind = Text; value = pos 0 }

-- 1 and 2 are integers of the value 7, 3 is -2, 4 and 5 are texts, every other number is a name
abbrev pub small_catalogue : ℕ → Entry
small_catalogue n =
    slice_index_or
    (unlisted ∷ integer (pos 7) ∷ integer (pos 7) ∷ integer (negsuc 1) ∷ text ∷ text ∷ []) n unlisted

-- variable 0 is term 1, an integer, variable 1 is term 4, a text, and no other variable has a value
abbrev pub example_row : Row
example_row = 1 ∷ 4 ∷ 0 ∷ 0 ∷ 0 ∷ 0 ∷ 0 ∷ 0 ∷ 0 ∷ 0 ∷ 0 ∷ 0 ∷ 0 ∷ 0 ∷ 0 ∷ 0 ∷ []

-- the truth of the filter on that row
abbrev pub truth_there : List node.Node → Truth
truth_there nodes = filter_truth small_catalogue example_row nodes

-- a node that is true there
abbrev pub holding : node.Node
holding = Bound 0

-- a node that is false there
abbrev pub failing : node.Node
failing = Bound 2

-- a node that is an error there
abbrev pub erring : node.Node
erring = Less (Variable 1) (Term 5)

-- the rules, each by an example
pub record FilterExamples : Type 0 where
  -- a comparison with a variable that has no value is an error
  pub equal_without_value : truth_there (Equal (Variable 2) (Term 1) ∷ []) ≡ Error
  pub equal_without_values : truth_there (Equal (Variable 2) (Variable 2) ∷ []) ≡ Error
  pub less_without_value : truth_there (Less (Term 3) (Variable 2) ∷ []) ≡ Error
  -- two integers are equal by their values
  pub equal_values : truth_there (Equal (Variable 0) (Term 2) ∷ []) ≡ True
  pub other_values : truth_there (Equal (Variable 0) (Term 3) ∷ []) ≡ False
  -- any other two terms are equal if they are one number: two texts, a text and an integer, a name
  pub two_texts : truth_there (Equal (Variable 1) (Term 5) ∷ []) ≡ False
  pub one_text : truth_there (Equal (Variable 1) (Term 4) ∷ []) ≡ True
  pub integer_and_text : truth_there (Equal (Variable 0) (Variable 1) ∷ []) ≡ False
  pub text_and_integer : truth_there (Equal (Variable 1) (Variable 0) ∷ []) ≡ False
  pub one_name : truth_there (Equal (Term 6) (Term 6) ∷ []) ≡ True
  -- of two integers the one with the smaller value is less, whatever their numbers are
  pub smaller_value : truth_there (Less (Term 3) (Variable 0) ∷ []) ≡ True
  pub greater_value : truth_there (Less (Variable 0) (Term 3) ∷ []) ≡ False
  pub value_not_less_than_itself : truth_there (Less (Variable 0) (Term 2) ∷ []) ≡ False
  -- less is an error for all else: two texts, an integer and a text, two names
  pub less_of_texts : truth_there (Less (Variable 1) (Term 5) ∷ []) ≡ Error
  pub less_of_integer_and_text : truth_there (Less (Term 3) (Variable 1) ∷ []) ≡ Error
  pub less_of_names : truth_there (Less (Term 6) (Term 7) ∷ []) ≡ Error
  -- bound is true for a variable with a value, and false for one without
  pub with_value : truth_there (Bound 0 ∷ []) ≡ True
  pub without_value : truth_there (Bound 2 ∷ []) ≡ False
  -- not swaps true and false, and keeps an error
  pub not_true : truth_there (holding ∷ Not 0 ∷ []) ≡ False
  pub not_false : truth_there (failing ∷ Not 0 ∷ []) ≡ True
  pub not_error : truth_there (erring ∷ Not 0 ∷ []) ≡ Error
  -- one false makes and false, else one error makes it an error
  pub true_and_true : truth_there (holding ∷ holding ∷ And 0 1 ∷ []) ≡ True
  pub true_and_false : truth_there (holding ∷ failing ∷ And 0 1 ∷ []) ≡ False
  pub true_and_error : truth_there (holding ∷ erring ∷ And 0 1 ∷ []) ≡ Error
  pub false_and_true : truth_there (failing ∷ holding ∷ And 0 1 ∷ []) ≡ False
  pub false_and_false : truth_there (failing ∷ failing ∷ And 0 1 ∷ []) ≡ False
  pub false_and_error : truth_there (failing ∷ erring ∷ And 0 1 ∷ []) ≡ False
  pub error_and_true : truth_there (erring ∷ holding ∷ And 0 1 ∷ []) ≡ Error
  pub error_and_false : truth_there (erring ∷ failing ∷ And 0 1 ∷ []) ≡ False
  pub error_and_error : truth_there (erring ∷ erring ∷ And 0 1 ∷ []) ≡ Error
  pub one_node_and_itself : truth_there (holding ∷ And 0 0 ∷ []) ≡ True
  -- one true makes or true, else one error makes it an error
  pub true_or_true : truth_there (holding ∷ holding ∷ Or 0 1 ∷ []) ≡ True
  pub true_or_false : truth_there (holding ∷ failing ∷ Or 0 1 ∷ []) ≡ True
  pub true_or_error : truth_there (holding ∷ erring ∷ Or 0 1 ∷ []) ≡ True
  pub false_or_true : truth_there (failing ∷ holding ∷ Or 0 1 ∷ []) ≡ True
  pub false_or_false : truth_there (failing ∷ failing ∷ Or 0 1 ∷ []) ≡ False
  pub false_or_error : truth_there (failing ∷ erring ∷ Or 0 1 ∷ []) ≡ Error
  pub error_or_true : truth_there (erring ∷ holding ∷ Or 0 1 ∷ []) ≡ True
  pub error_or_false : truth_there (erring ∷ failing ∷ Or 0 1 ∷ []) ≡ Error
  pub error_or_error : truth_there (erring ∷ erring ∷ Or 0 1 ∷ []) ≡ Error
  pub one_node_or_itself : truth_there (holding ∷ Or 0 0 ∷ []) ≡ True
  -- an error does not pass, as false does not
  pub error_not_passed : passes small_catalogue (erring ∷ []) example_row ≡ false
  pub false_not_passed : passes small_catalogue (failing ∷ []) example_row ≡ false
  pub true_passed : passes small_catalogue (holding ∷ []) example_row ≡ true
  -- the last node gives the truth, and without nodes it is true
  pub last_node_counts : truth_there (erring ∷ failing ∷ holding ∷ []) ≡ True
  pub no_nodes : truth_there [] ≡ True
