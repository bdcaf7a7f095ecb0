-- What is said of an operation that traps, with its values.
use Rattle.std.specs.Prelude.{ℕ, ℤ, pos, ◌-◌, ◌++◌, int_lt, List, codes, decimal, if◌then◌else◌}
use Rattle.std.specs.Fmt.{signed_decimal}
use Rattle.ob_interface.specs.declared.scalar.Scalar.{Scalar}
use Rattle.ob_interface.specs.declared.scalar.Scalar.TheVariants.{Int}
use Rattle.ob_meaning.specs.ByNameObject.{most_turns}
use Rattle.ob_text_words.specs.ScalarTexts.{scalar_text}
use Rattle.ob_trap_places.specs.Site.{Cause, Operating, Negating, Indexing, Activating, Turning}
use Rattle.ob_typing.specs.declared.operator.BinaryOperator.{BinaryOperator}
use Rattle.ob_typing.specs.declared.operator.BinaryOperator.TheVariants.{Plus, Minus, Times, Div, Mod, And, Or}
use Rattle.ob_explained.specs.declared.cause.Runner.{Runner}
use Rattle.ob_explained.specs.declared.cause.Runner.TheVariants as Runners

-- how an operator is written between its operands
abbrev pub operator_text : BinaryOperator → List ℕ
operator_text Plus = codes " + "
operator_text Minus = codes " - "
operator_text Times = codes " * "
operator_text Div = codes " DIV "
operator_text Mod = codes " MOD "
operator_text And = codes " & "
operator_text Or = codes " OR "

-- a value behind a sign or an operator: a number below 0 stands in parentheses
abbrev pub operand_text : Scalar → List ℕ
operand_text (Int z) = if int_lt z (pos 0) then codes "(" ++ signed_decimal z ++ codes ")" else signed_decimal z
operand_text s = scalar_text s

-- of a result that is no INTEGER
abbrev pub range_text : List ℕ
range_text = codes " is outside the range of INTEGER, -2147483648 to 2147483647"

-- why there is no result: of DIV and MOD by the divisor, else by the range
abbrev pub reason_text : BinaryOperator → List ℕ
reason_text Div = codes " has no value, since a divisor is at least 1"
reason_text Mod = codes " has no value, since a divisor is at least 1"
reason_text operator = range_text

-- of an index, and of an array of so many elements
unfoldable pub index_text : ℤ → List ℕ
index_text index = codes "the index is " ++ signed_decimal index

unfoldable pub indices_text : (length : ℕ) → List ℕ
indices_text length = codes ", and the array has the indices 0 to " ++ decimal (length - 1)

-- how many turns who runs has, and of whom a sentence says so: the module's body is what the sentence speaks of
abbrev pub turns_of : Runner → ℕ
turns_of (Runners.Call budget) = budget
turns_of Runners.Body = most_turns

abbrev pub runner_text : Runner → List ℕ
runner_text (Runners.Call budget) = codes " that a call has for its loops and calls"
runner_text Runners.Body = codes " that it has for its loops and calls"

-- of an operator between its operands, of a minus sign, of an index, and of a turn
abbrev pub operation_sentence : BinaryOperator → (left right : Scalar) → List ℕ
operation_sentence operator left right = scalar_text left ++ operator_text operator ++ operand_text right ++ reason_text operator

abbrev pub negation_sentence : Scalar → List ℕ
negation_sentence operand = codes "-" ++ operand_text operand ++ range_text

abbrev pub index_sentence : (length : ℕ) (index : ℤ) → List ℕ
index_sentence length index = index_text index ++ indices_text length

abbrev pub turns_sentence : Runner → List ℕ
turns_sentence runner = codes "no turn is left of the " ++ decimal (turns_of runner) ++ runner_text runner

-- what could not be done
abbrev pub cause_sentence : Runner → Cause → List ℕ
cause_sentence runner (Operating operator left right) = operation_sentence operator left right
cause_sentence runner (Negating operand) = negation_sentence operand
cause_sentence runner (Indexing length index) = index_sentence length index
cause_sentence runner Activating = codes "at most 64 procedures are active within one another, and this would be the 65th"
cause_sentence runner Turning = turns_sentence runner
