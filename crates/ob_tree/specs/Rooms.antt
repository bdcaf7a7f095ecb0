-- How many tasks the work list of a checked module's object needs room for.
use Rattle.std.specs.Prelude.{ℕ, ◌+◌, ◌*◌}

-- The most tasks of an activation, its own procedure's. Constructs of a text stand at most 100 deep, of which the procedure is the
-- outermost one. At each depth at most 9 tasks wait: two for each of a relation, a sum and a product, and three for a bracket.
abbrev pub most_tasks : ℕ
most_tasks = 9 * 99 + 14

-- of 64 activations, and three more
abbrev pub most_room : ℕ
most_room = 64 * most_tasks + 3
