use Rattle.std.proofs.Common.{sym}
use Rattle.ob_scopes.proofs.Entries.{type_of_entry, beyond_entries}
use Rattle.ob_scopes.proofs.same_types.shape_in.Goals as goal

pub returns-in-Some : goal.returns-in-Some
returns-in-Some c = sym (type_of_entry _ _ _ c.in-Structured.is c.in-Some.ensures.table _ c.in-Some.ensures.entry)

pub returns-in-None : goal.returns-in-None
returns-in-None c = sym (beyond_entries _ _ _ c.in-Structured.is c.in-None.ensures.entry)
