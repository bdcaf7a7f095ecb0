-- The limits that the checked program of a module keeps.
use Rattle.std.specs.Prelude.{◌≡◌, ℕ, ◌+◌, ◌≤◌, ◌||◌, not, true, List, length}
use Rattle.std.specs.List.{All, sum_by}
use Rattle.ob_typing.specs.Program.{Variable, Procedure, Program, exports}
use Rattle.ob_typing.specs.Scopes.{is_simple, words}
use Rattle.ob_typing.specs.Declarations.{most_parameters, most_exports, all_simple}

-- the words of variables
abbrev pub variable_words : List Variable → ℕ
variable_words = sum_by (λ v. words v.type)

-- at most 8 parameters, of which no value parameter is structured, and of an export none; a frame of at most 1024 words
pub record KeepsFrame (p : Procedure) : Type 0 where
  pub few : length p.parameters ≤ most_parameters
  pub values : All (λ q. (q.is_var || is_simple q.type) ≡ true) p.parameters
  pub export : (not p.is_exported || all_simple p.parameters) ≡ true
  pub frame : length p.parameters + variable_words p.variables ≤ 1024

-- at most 4096 words of the module's variables, and at most 64 exports
pub record KeepsLimits (program : Program) : Type 0 where
  pub variables : variable_words program.variables ≤ 4096
  pub procedures : All KeepsFrame program.procedures
  pub exported : length (exports program) ≤ most_exports
