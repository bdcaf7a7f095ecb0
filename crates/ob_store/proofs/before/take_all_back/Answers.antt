use Rattle.std.proofs.Common.{ap, sym, ◌∙◌}
use Rattle.ob_store.specs.View.{variables_in}
use Rattle.ob_store.specs.Begun.{taken_back}
use Rattle.ob_store.proofs.TakenBack.{taken_back-last}
use Rattle.ob_store.proofs.before.take_all_back.Goals as goal

pub left-preserved : goal.left-preserved
left-preserved c =
    let variables = variables_in c.left.variables in
    let left = c.pop.new.self.items in
    ap (taken_back left) c.take_back.ensures ∙ sym (taken_back-last left c.in-Some.listed variables)
    ∙ ap (λ writes. taken_back writes variables) (sym c.in-Some.ensures.items) ∙ c.left.invariant
