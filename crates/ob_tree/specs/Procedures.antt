-- Procedures whose frames are small.
use Rattle.std.specs.Prelude.{ℕ, ◌≡◌, ◌≤◌, List, Some, slice_get}
use Rattle.ob_typing.specs.Program.{Procedure}
use Rattle.ob_code_scheme.specs.Layout.{variable_words}

-- the words of the variables of each procedure have 16 bits
abbrev pub AreSmallFrames : List Procedure → Type 0
AreSmallFrames ps = (i : ℕ) (p : Procedure) → slice_get ps i ≡ Some p → variable_words p.variables ≤ 65535
