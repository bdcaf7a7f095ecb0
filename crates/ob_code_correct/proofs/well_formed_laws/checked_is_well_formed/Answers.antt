use Rattle.std.proofs.Common.{subst}
use Rattle.std.proofs.Math.Logic.{∥∥₁_map}
use Rattle.ob_checked.specs.CheckedModule.{program_in}
use Rattle.ob_grammar.specs.EndNamesAndNesting.{KeepsConditions}
use Rattle.ob_grammar.specs.Texts.{HasText}
use Rattle.ob_code_correct.proofs.well_formed_laws.checked_is_well_formed.Goals as goal

pub returns : goal.returns
returns c =
    let tree = c.module.ensures in
    let text = subst HasText tree c.tree-tree.ensures.has_text in
    let keeps = subst KeepsConditions tree c.tree-tree.ensures.keeps in
    ∥∥₁_map c.program-typed.ensures.typed (c.well_typed_is_well_formed.ensures _ (program_in c.args.checked.now) text keeps)
