use Rattle.std.proofs.Common.{sym, subst}
use Rattle.ob_checked.specs.CheckedModule.{program_in}
use Rattle.ob_tree_law.specs.TreeEngine.{IsTreeReady}
use Rattle.ob_tree.proofs.Known.{empty_ready}
use Rattle.ob_tree.proofs.engine.TreeEngineEngine.new_run.Goals as goal

pub returns : goal.returns
returns c =
    let e = c.args.self.now in
    let program = program_in e.checked.now in
    subst (IsTreeReady program) (sym c.in_ok-run.ensures) (empty_ready program _ _ e.stack e.room)
