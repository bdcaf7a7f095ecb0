-- The line that tells each fault of a module's text, or of the object that is asked for of it.
use Rattle.std.specs.Prelude.{ℕ, List, [], ◌++◌, codes, slice_get}
use Rattle.std.specs.Option.{option_map_or}
use Rattle.ob_carry.specs.Carried.{Entry}
use Rattle.ob_carry.specs.declared.carrying.CarryFault.{CarryFault}
use Rattle.ob_carry.specs.declared.carrying.CarryFault.TheVariants as Carry
use Rattle.ob_object_compile.specs.Asked.{Beginning, ByBody, ByValues}
use Rattle.ob_object_compile.specs.declared.compiling.CompileFault.{CompileFault}
use Rattle.ob_object_compile.specs.declared.compiling.CompileFault.TheVariants as Compile
use Rattle.ob_fault_lines.specs.ModuleFaultLines.{Text, no_memory_line, open_line, text_line}

-- the name of the value at a position; nothing where there is none
abbrev pub name_in : List Entry → (position : ℕ) → Text
name_in values position = option_map_or (λ (e : Entry). e.name) (slice_get values position) []

-- of those with which an object is to begin
abbrev pub name_at : Beginning → (position : ℕ) → Text
name_at ByBody position = []
name_at (ByValues values) position = name_in values position

-- of a value
abbrev pub of_value : Text → Beginning → (position : ℕ) → Text
of_value fault beginning position = fault ++ codes " " ++ name_at beginning position

abbrev pub carry_line : Beginning → CarryFault → Text
carry_line beginning (Carry.Unknown position) = of_value (codes "M1") beginning position
carry_line beginning (Carry.Unfit position) = of_value (codes "M2") beginning position
carry_line beginning Carry.NoMemory = no_memory_line

abbrev pub compile_line : Beginning → CompileFault → Text
compile_line beginning Compile.Processes = codes "N1"
compile_line beginning Compile.Budget = codes "N3"
compile_line beginning (Compile.Text e) = text_line e
compile_line beginning Compile.TooLong = codes "G1"
compile_line beginning (Compile.Open e) = open_line e
compile_line beginning (Compile.Carry e) = carry_line beginning e
compile_line beginning Compile.NoMemory = no_memory_line
