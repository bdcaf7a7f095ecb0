use Rattle.std.proofs.Common.{sym, ap}
use Rattle.ob_typing.specs.Scopes.{depth}
use Rattle.ob_checked.proofs.Numbers.{depth_at, no_entry_type}
use Rattle.ob_checked.proofs.types.Types.depth.Goals as goal

pub returns-in-Some : goal.returns-in-Some
returns-in-Some c =
    depth_at _ _ c.args.self.now.table _ _ c.in-Structured.is c.deref.ensures.value _ c.in-Some.ensures.lookup.3.0 c.in-Some.ensures.lookup.1

pub returns-in-None : goal.returns-in-None
returns-in-None c =
    ap depth (sym (no_entry_type _ _ c.args.self.now.table _ _ c.in-Structured.is c.deref.ensures.value c.in-None.ensures.lookup.3))
