use Rattle.std.proofs.Common.{◌≡◌, ◌≤◌, List, [], length, take}
use Rattle.ob_typing.specs.Scopes.{found}
use Rattle.ob_checked.specs.Types.{Entry}
use Rattle.ob_scopes.specs.Objects.{env_behind}
use Rattle.ob_scopes.proofs.scopes.found_around.Given as goal

-- the scopes that were passed do not declare the name
abbrev pub invariant-loop-level : goal.invariant-loop-level
invariant-loop-level l = record {
  within : l.level ≤ length l.scopes;
  rest : (types : List Entry) → found (env_behind types (take l.level l.scopes) []) l.name ≡ found (env_behind types l.scopes []) l.name;
}

abbrev pub decreases-loop-level : goal.decreases-loop-level
decreases-loop-level l = l.level
