-- Labels whose steps show nothing.
use Rattle.std.specs.Prelude.{Bool, true, false}
use Rattle.wf_table.specs.declared.process.Label.{Label}
use Rattle.wf_table.specs.declared.process.Label.TheVariants.{Next, Flip, Commit, Give}

abbrev pub is_quiet : Label → Bool
is_quiet Next = false
is_quiet Commit = false
is_quiet Give = false
is_quiet _ = true

-- labels whose steps note nothing but their turn: FLIP marks the history's length
abbrev pub is_unmarked : Label → Bool
is_unmarked Next = false
is_unmarked Flip = false
is_unmarked Commit = false
is_unmarked Give = false
is_unmarked _ = true
