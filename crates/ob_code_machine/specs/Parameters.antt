-- What words hand over for parameters.
use Rattle.std.specs.Prelude.{ℕ, suc, ℤ, pos, List, [], ◌∷◌, if◌then◌else◌}
use Rattle.ob_interface.specs.declared.export.Formal.{Formal}
use Rattle.ob_code_machine.specs.declared.argument.Argument.{Argument}
use Rattle.ob_code_machine.specs.declared.argument.Argument.TheVariants.{Value, Var}

-- the first word, or 0 where there is none
abbrev pub first_word : List ℤ → ℤ
first_word [] = pos 0
first_word (w ∷ words) = w

abbrev pub other_words : List ℤ → List ℤ
other_words [] = []
other_words (w ∷ words) = words

-- nothing for a VAR parameter, else the next word
abbrev pub arguments_in : List Formal → List ℤ → List Argument
arguments_in [] words = []
arguments_in (p ∷ parameters) words =
    if p.is_var then Var ∷ arguments_in parameters words else Value (first_word words) ∷ arguments_in parameters (other_words words)

-- how many are VAR
abbrev pub var_count : List Formal → ℕ
var_count [] = 0
var_count (p ∷ parameters) = if p.is_var then suc (var_count parameters) else var_count parameters
