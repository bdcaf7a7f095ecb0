use Rattle.std.proofs.Common.{sym, ap}
use Rattle.ob_typing.specs.Scopes as Declared
use Rattle.ob_scopes.proofs.Entries.{entry_type, beyond_entries}
use Rattle.ob_scopes.proofs.type_parts.fields_of.Goals as goal

pub returns-in-Record : goal.returns-in-Record
returns-in-Record c =
    sym (ap Declared.fields_of (entry_type _ _ _ c.in-Structured.is c.in-Some.ensures.table _ c.in-Some.ensures.entry _ c.in-Record.is))

pub returns-in-Array : goal.returns-in-Array
returns-in-Array c =
    sym (ap Declared.fields_of (entry_type _ _ _ c.in-Structured.is c.in-Some.ensures.table _ c.in-Some.ensures.entry _ c.in-Array.is))

pub returns-in-None : goal.returns-in-None
returns-in-None c = sym (ap Declared.fields_of (beyond_entries _ _ _ c.in-Structured.is c.in-None.ensures.entry))
