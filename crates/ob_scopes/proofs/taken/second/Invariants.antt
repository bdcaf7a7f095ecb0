use Rattle.std.proofs.Common.{◌≡◌, map, drop}
use Rattle.ob_grammar.specs.View.{name_of}
use Rattle.ob_typing.specs.Types.{second}
use Rattle.ob_scopes.specs.TakenNames.{taken_in}
use Rattle.ob_scopes.proofs.Seconds.{or_taken}
use Rattle.ob_scopes.proofs.taken.second.Given as goal

-- with the names before, the first of those that are left is the first of all
abbrev pub invariant-loop-name : goal.invariant-loop-name
invariant-loop-name g l =
    second (taken_in l.taken) (map name_of l.names)
    ≡ second (or_taken (taken_in l.before) (taken_in l.taken)) (map name_of (drop l.name-index l.names))
