use Rattle.std.proofs.Common.{[], ap, sym, ◌∙◌}
use Rattle.ob_meaning.specs.ByPositionStore as Stores
use Rattle.ob_meaning.specs.ByPositionValue as Values
use Rattle.ob_store.specs.Begun.{taken_back, begun_by}
use Rattle.ob_store.specs.declared.before.Listed.TheVariants.{Variable}
use Rattle.ob_store.proofs.TakenBack.{taken_back-last}
use Rattle.ob_store.proofs.before.Before.list_scalar.Goals as goal

pub returns-in_ok-push-clause-listed : goal.returns-in_ok-push-clause-listed
returns-in_ok-push-clause-listed c a =
    ap (λ writes. taken_back writes a) c.in_ok-push.ensures.items
    ∙ taken_back-last c.in-Writes.writes.items (Variable c.args.position c.args.was) a
    ∙ ap (λ b. begun_by b (Stores.with_held a c.args.position [] (Values.Single c.args.was))) (sym c.in-Writes.is)
