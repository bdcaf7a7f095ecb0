use Rattle.std.proofs.Common.{sym, ap}
use Rattle.ob_typing.specs.Scopes.{words}
use Rattle.ob_checked.proofs.Numbers.{words_at, no_entry_type}
use Rattle.ob_checked.proofs.types.Types.words.Goals as goal

pub returns-in-Some : goal.returns-in-Some
returns-in-Some c =
    words_at _ _ c.args.self.now.table _ _ c.in-Structured.is c.deref.ensures.value _ c.in-Some.ensures.lookup.3.0 c.in-Some.ensures.lookup.1

pub returns-in-None : goal.returns-in-None
returns-in-None c =
    ap words (sym (no_entry_type _ _ c.args.self.now.table _ _ c.in-Structured.is c.deref.ensures.value c.in-None.ensures.lookup.3))
