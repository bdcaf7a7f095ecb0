-- What the program's parts stand for.
use Rattle.std.specs.Prelude.{List, ℕ, Vec, map}
use Rattle.std.specs.declared.alloc.Global.{Global}
use Rattle.wf_parts.specs.declared.part.Part.{Part}
use Rattle.wf_parts.specs.Numbering.{PartView}

abbrev pub rows_in : List (Vec ℕ Global) → List (List ℕ)
rows_in numbers = map (λ row. row.items) numbers

abbrev pub part_in : Part → PartView
part_in p = record { value = p.value; rows = rows_in p.numbers.items; events = p.history }

abbrev pub parts_in : List Part → List PartView
parts_in = map part_in
