-- The type by the names so far.
use Rattle.std.proofs.Common.{◌≡◌, take}
use Rattle.std.specs.List.{fold}
use Rattle.ob_explain_parts.specs.Types.{followed}
use Rattle.ob_explain_parts.proofs.declared_types.followed_by.Given as goal

abbrev pub invariant-loop-name : goal.invariant-loop-name
invariant-loop-name l = l.found ≡ fold (followed l.text l.tokens) l.fn.type_there (take l.name-index l.names)
