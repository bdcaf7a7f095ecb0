-- What is told of the words of a line that makes a call: a process, the name of a procedure, and its values.
use Rattle.std.specs.Prelude.{◌≡◌, Bool, ℕ, List, [], ◌∷◌, ◌++◌, length, Option, Some, None, slice_get, string_bytes, unwrap_or}
use Rattle.ob_interface.specs.declared.scalar.ScalarType.{ScalarType}
use Rattle.ob_interface.specs.Export.{Signature, value_types}
use Rattle.ob_text_words.specs.Words.{Word}
use Rattle.ob_text_words.specs.ExportNames.{export_named}
use Rattle.ob_explain_arguments.specs.Values.{mark_sentence}
use Rattle.ob_explain_arguments.specs.DeclaredNames.{IsDeclared}
use Rattle.ob_explain_arguments.specs.Misfits.{TellsMisfit}
use Rattle.ob_explain_arguments.specs.Sentences.{count_sentence, unknown_text, value_sentence}
use Rattle.ob_explain_arguments.specs.declared.call_line.Told as Declared
use Rattle.ob_explain_arguments.specs.declared.misfit.Misfit.{Misfit}
use Rattle.ob_explain_arguments.specs.declared.misfit.Misfit.TheVariants.{Count, Value}

-- a sentence on the value of a number, counted from 0, or on the name where there is no number
pub record Told : Type 0 where
  pub value : Option ℕ
  pub sentence : List ℕ

abbrev pub told_of : Declared.Told → Told
told_of t = record { value = t.value; sentence = string_bytes t.sentence }

-- of the name
abbrev pub name_told : (sentence : List ℕ) → Told
name_told sentence = record { value = None; sentence = sentence }

-- of a value, and of the marks in its word
abbrev pub value_told : (number : ℕ) → ScalarType → Word → Told
value_told number type word = record { value = Some number; sentence = value_sentence type ++ mark_sentence word }

-- the word for the value of a number
abbrev pub value_word : List Word → (number : ℕ) → Word
value_word values number = unwrap_or (slice_get values number) []

-- at the name where the number of values is wrong, and else at the value that doesn't fit
abbrev pub misfit_told : List ScalarType → List Word → Option Misfit → Option Told
misfit_told types values None = None
misfit_told types values (Some Count) = Some (name_told (count_sentence (length values) types))
misfit_told types values (Some (Value number type)) = Some (value_told number type (value_word values number))

-- of values for these types
pub record IsMisfitTold (types : List ScalarType) (values : List Word) (told : Option Told) : Type 0 where
  pub misfit : Option Misfit
  pub fails : TellsMisfit types values misfit
  pub says : told ≡ misfit_told types values misfit

-- of a name that is none of an export of a module of this text
pub record IsUnknownTold (object : List ℕ) (signatures : List Signature) (name : Word) (told : Option Told) : Type 0 where
  pub declared : Bool
  pub is_declared : IsDeclared object name declared
  pub says : told ≡ Some (name_told (unknown_text declared signatures name))

-- of a name, which may be the one of an export, and of values
abbrev pub IsToldFor : (object : List ℕ) → List Signature → Word → Option (ℕ × Signature) → List Word → Option Told → Type 0
IsToldFor object signatures name None values told = IsUnknownTold object signatures name told
IsToldFor object signatures name (Some export) values told = IsMisfitTold (value_types export.1.formals) values told

-- of a name, looked up among the exports, and of values
abbrev pub IsToldOfCall : (object : List ℕ) → List Signature → (name : Word) → (values : List Word) → Option Told → Type 0
IsToldOfCall object signatures name values told = IsToldFor object signatures name (export_named signatures name) values told

-- of the words behind a process
abbrev pub IsToldBehind : (object : List ℕ) → List Signature → List Word → Option Told → Type 0
IsToldBehind object signatures [] told = told ≡ None
IsToldBehind object signatures (name ∷ values) told = IsToldOfCall object signatures name values told

-- of the words of a line, for the exports of a module of this text; nothing where all fits
abbrev pub IsToldOf : (object : List ℕ) → List Signature → List Word → Option Told → Type 0
IsToldOf object signatures [] told = told ≡ None
IsToldOf object signatures (process ∷ rest) told = IsToldBehind object signatures rest told
