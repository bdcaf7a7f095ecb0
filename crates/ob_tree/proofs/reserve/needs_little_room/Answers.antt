use Rattle.std.proofs.Common.{subst}
use Rattle.std.proofs.Math.Bridge.{le_prop}
use Rattle.std.proofs.Math.Logic.{∥∥₁_elim}
use Rattle.ob_checked.specs.CheckedModule.{program_in}
use Rattle.ob_grammar.specs.EndNamesAndNesting.{KeepsConditions}
use Rattle.ob_grammar.specs.Texts.{HasText}
use Rattle.ob_tree.proofs.FewTasks.{little_room}
use Rattle.ob_tree.proofs.reserve.needs_little_room.Goals as goal

pub returns : goal.returns
returns c =
    let tree = c.module.ensures in
    let text = subst HasText tree c.tree-tree.ensures.has_text in
    let keeps = subst KeepsConditions tree c.tree-tree.ensures.keeps in
    ∥∥₁_elim c.program-typed.ensures.typed le_prop (little_room _ (program_in c.args.checked.now) text keeps)
