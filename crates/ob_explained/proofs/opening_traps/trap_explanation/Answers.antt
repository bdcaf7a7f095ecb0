use Rattle.std.proofs.Common.{option_map, string_bytes}
use Rattle.std.proofs.lemmas.Result.{IfOk-weaker}
use Rattle.ob_checked.specs.CheckedModule.{program_in, tree_in}
use Rattle.ob_explained.proofs.Explanations.{explained}
use Rattle.ob_explained.proofs.opening_traps.trap_explanation.Goals as goal

pub returns-in-Ok : goal.returns-in-Ok
returns-in-Ok c =
    let checked = c.in-Ok.checked in
    IfOk-weaker c.checked_explanation.result _ _
    (λ shown is. explained c.args.name.now c.args.text.now (tree_in checked) (program_in checked) c.in-Ok.ensures.program c.in-Ok.ensures.alone c.in-Ok.ensures.tree
    c.in-Ok.ensures.one_tree (option_map string_bytes shown) is)
    c.checked_explanation.ensures

pub returns-in-Err : goal.returns-in-Err
returns-in-Err c = IfOk-weaker c.untold.result _ _ (λ shown told. told c.args.name.now) c.untold.ensures
