-- How many processes may share an object.
use Rattle.std.specs.Prelude.{ℕ}

-- processes 0 to 15
abbrev pub most_processes : ℕ
most_processes = 16
