-- What a process spends with more steps.
use Rattle.std.specs.Prelude.{ℕ, ◌+◌}
use Rattle.wf_table.specs.declared.spent.Spent.{Spent}

-- so many steps outside bodies more
abbrev pub outside_more : Spent → ℕ → Spent
outside_more x n = record x { outside = x.outside + n }
