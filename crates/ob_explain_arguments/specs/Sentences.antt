-- What is said of a call of no export, and of values that don't fit.
use Rattle.std.specs.Prelude.{ℕ, Bool, ◌==◌, List, [], ◌∷◌, ◌++◌, codes, decimal, length, Option, Some, None, if◌then◌else◌}
use Rattle.ob_interface.specs.declared.scalar.ScalarType.{ScalarType}
use Rattle.ob_interface.specs.declared.scalar.ScalarType.TheVariants.{Integer, Boolean}
use Rattle.ob_interface.specs.Export.{Signature}
use Rattle.ob_text_words.specs.Words.{Word}
use Rattle.ob_explain_arguments.specs.Near.{near_export}
use Rattle.ob_explain_arguments.specs.Values.{mark_sentence}

-- a name in quotes
abbrev pub name_text : Signature → List ℕ
name_text signature = codes "`" ++ signature.name ++ codes "`"

-- names behind another one
abbrev pub further_names : List Signature → List ℕ
further_names [] = []
further_names (signature ∷ rest) = codes ", " ++ name_text signature ++ further_names rest

-- which exports there are
abbrev pub listed_names : List Signature → List ℕ
listed_names [] = codes "; this module exports none"
listed_names (signature ∷ rest) = codes "; this module exports " ++ name_text signature ++ further_names rest

-- the question whether an export is meant
abbrev pub question_text : Signature → List ℕ
question_text signature = codes "; did you mean " ++ name_text signature ++ codes "?"

-- of an export that is near, or else which exports there are
abbrev pub near_or_all : List Signature → Option Signature → List ℕ
near_or_all signatures None = listed_names signatures
near_or_all signatures (Some near) = question_text near

-- of the marks in a name, as of those in a value; where it has none, of an export that is near, or else which exports there are
abbrev pub marks_or_near : List Signature → Word → List ℕ
marks_or_near signatures name =
    if length (mark_sentence name) == 0 then near_or_all signatures (near_export signatures name) else mark_sentence name

abbrev pub unknown_sentence : List Signature → Word → List ℕ
unknown_sentence signatures name =
    codes "a call names a procedure that the module exports, which has a * behind its name there" ++ marks_or_near signatures name

-- of a name that is one of a procedure which is not exported
abbrev pub private_sentence : List Signature → List ℕ
private_sentence signatures = codes "the module declares this procedure without a * behind its name, so it isn't exported" ++ listed_names signatures

-- of a name that is none of an export, and that the module declares or not
abbrev pub unknown_text : (declared : Bool) → List Signature → Word → List ℕ
unknown_text declared signatures name =
    if declared then private_sentence signatures
    else unknown_sentence signatures name

abbrev pub type_name : ScalarType → List ℕ
type_name Integer = codes "INTEGER"
type_name Boolean = codes "BOOLEAN"

-- types behind another one
abbrev pub further_types : List ScalarType → List ℕ
further_types [] = []
further_types (type ∷ rest) = codes ", " ++ type_name type ++ further_types rest

abbrev pub listed_types : List ScalarType → List ℕ
listed_types [] = []
listed_types (type ∷ rest) = codes ": " ++ type_name type ++ further_types rest

-- how many values a procedure takes, and of which types
abbrev pub taken_text : List ScalarType → List ℕ
taken_text types = codes ", and the procedure takes " ++ decimal (length types) ++ codes " for its parameters without VAR" ++ listed_types types

abbrev pub values_noun : ℕ → List ℕ
values_noun values = if values == 1 then codes " value" else codes " values"

-- how many values a call has, and what the procedure takes
abbrev pub count_sentence : (values : ℕ) → List ScalarType → List ℕ
count_sentence values types = codes "this call has " ++ decimal values ++ values_noun values ++ taken_text types

abbrev pub value_sentence : ScalarType → List ℕ
value_sentence Integer = codes "an INTEGER is wanted here, a number from -2147483648 to 2147483647"
value_sentence Boolean = codes "a BOOLEAN is wanted here, TRUE or FALSE"

-- how many values stand behind done, and how many the procedure gives
abbrev pub done_sentence : (values : ℕ) → List ScalarType → List ℕ
done_sentence values types =
    codes "done has " ++ decimal values ++ values_noun values ++ codes ", and the procedure gives " ++ decimal (length types) ++ codes " for its parameters with VAR" ++ listed_types types
