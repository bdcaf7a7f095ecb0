use Rattle.std.proofs.Common.{ap, sym, ◌∙◌}
use Rattle.ob_typing.specs.Program.{no_branch}
use Rattle.ob_tree_law.specs.Reserve as Counts
use Rattle.ob_checked.specs.View.{statements_in, branches_in, otherwise_of}
use Rattle.ob_layout.specs.Counted.{counted}
use Rattle.ob_tree.proofs.Reserved.{if_counted, while_counted, repeat_counted, alone, some_choosing}
use Rattle.ob_tree.proofs.reserve.+statements.Goals as goal

pub doing_most-returns-in-Some : goal.doing_most-returns-in-Some
doing_most-returns-in-Some t c =
    c.max-in-Some.ensures
    ∙ if_counted _ _ _ _ _ c.in-If.is c.choosing_most-most.ensures c.as_slice-in-If.ensures.value c.all_most.result
    (c.all_most.ensures ∙ ap (λ xs. counted (Counts.all_most (statements_in xs))) c.as_slice-in-Some.ensures.value
    ∙ ap (λ o. counted (Counts.choosing_most (otherwise_of o))) (sym c.in-Some.is))

pub doing_most-returns-in-None : goal.doing_most-returns-in-None
doing_most-returns-in-None t c =
    alone c.choosing_most-most.result _ c.choosing_most-most.ensures (some_choosing (branches_in c.as_slice-in-If.result.now no_branch))
    ∙ if_counted _ _ _ _ _ c.in-If.is c.choosing_most-most.ensures c.as_slice-in-If.ensures.value 1
    (ap (λ o. counted (Counts.choosing_most (otherwise_of o))) (sym c.in-None.is))

pub doing_most-returns-in-While : goal.doing_most-returns-in-While
doing_most-returns-in-While t c =
    while_counted _ _ _ _ _ _ _ _ _ _ c.in-While.is c.as_slice-in-While.ensures.value c.value_most-in-While.ensures c.saturating_add-most-in-While.ensures
    c.all_most-in-While.ensures c.saturating_add-in-While.ensures c.max-in-While.ensures c.max-in-While-2.ensures

pub doing_most-returns-in-Repeat : goal.doing_most-returns-in-Repeat
doing_most-returns-in-Repeat t c =
    repeat_counted _ _ _ _ _ _ _ _ _ _ c.in-Repeat.is c.as_slice-in-Repeat.ensures.value c.value_most-in-Repeat.ensures c.saturating_add-most-in-Repeat.ensures
    c.all_most-in-Repeat.ensures c.saturating_add-in-Repeat.ensures c.max-in-Repeat.ensures c.max-in-Repeat-2.ensures
