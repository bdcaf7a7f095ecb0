use Rattle.std.proofs.Common.{sym, ap}
use Rattle.ob_scopes.specs.SimpleTypes.{simple_type}
use Rattle.ob_scopes.proofs.Entries.{entry_not_simple, beyond_entries}
use Rattle.ob_scopes.proofs.type_parts.simple_type.Goals as goal

pub returns-in-Some : goal.returns-in-Some
returns-in-Some c = entry_not_simple _ _ _ c.in-Structured.is c.in-Some.ensures.table _ c.in-Some.ensures.entry

pub returns-in-None : goal.returns-in-None
returns-in-None c = sym (ap simple_type (beyond_entries _ _ _ c.in-Structured.is c.in-None.ensures.entry))
