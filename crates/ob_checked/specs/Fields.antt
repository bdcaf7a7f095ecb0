-- The fields of a record by name, where numbers stand for their types.
use Rattle.std.specs.Prelude.{ℕ, ◌+◌, List, [], ◌∷◌, Option, Some, None, bytes_eq, if◌then◌else◌, option_map, string_bytes, String}
use Rattle.std.specs.declared.alloc.Global.{Global}
use Rattle.ob_typing.specs.Program.{Name}
use Rattle.ob_checked.specs.declared.types.DataType.{DataType}

-- the position of the first field of a name, behind n others, and its type
abbrev pub found_from : ℕ → List (String Global × DataType) → Name → Option (ℕ × DataType)
found_from n [] name = None
found_from n (f ∷ fs) name = if bytes_eq (string_bytes f.0) name then Some (n, f.1) else found_from (n + 1) fs name

-- its position alone
abbrev pub position_from : ℕ → List (String Global × DataType) → Name → Option ℕ
position_from n fs name = option_map (λ f. f.0) (found_from n fs name)
