-- Calls and ends together.
use Rattle.wf_outcomes.proofs.outcomes.all_told.Goals as goal

pub returns : goal.returns
returns g c = record { listed = c.in_ok-calls.ensures.listed; replies = c.in_ok-calls.ensures.told; states = c.in_ok-ends.ensures }
