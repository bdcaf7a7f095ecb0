-- The limit on nesting.
use Rattle.std.specs.Prelude.{ℕ}

-- how many constructs may stand within one another
abbrev pub deepest_nesting : ℕ
deepest_nesting = 100
