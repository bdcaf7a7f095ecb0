-- The number of the call is the next one.
use Rattle.std.proofs.Common.{refl, ap, ◌∙◌, ℕ, ◌+◌, get_or, set, List}
use Rattle.wf_history.proofs.Positions.{same_call}
use Rattle.wf_order.specs.Rows.{call_at}
use Rattle.wf_order.proofs.Lists.{same_configuration}
use Rattle.wf_order.proofs.step.one_more.Goals as goal

pub returns-clause-id : goal.returns-clause-id
returns-clause-id g c =
    let process = c.args.process in
    let number = c.in_ok-number.ensures.number ∙ ap (λ (l : List ℕ). get_or l process 0 + 1) (c.in_ok-counts.ensures.ok ∙ c.as_slice.ensures) in
    same_call (record { process = process; number = c.in_ok-number.number }) (call_at process (get_or c.args.counts.now.items process 0)) refl number

pub returns-clause-found : goal.returns-clause-found
returns-clause-found g c =
    same_configuration (c.in_ok-number.ensures.counts ∙ ap (λ (l : List ℕ). set l c.args.process (get_or l c.args.process 0 + 1)) (c.in_ok-counts.ensures.ok ∙ c.as_slice.ensures)) refl
