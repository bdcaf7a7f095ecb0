use Rattle.std.proofs.Common.{subst}
use Rattle.std.proofs.lemmas.Result.{err_from_is_err_and}
use Rattle.ob_checked.specs.View.{program_of}
use Rattle.ob_mean.specs.Faults.{IsOpenFault, of_stop}
use Rattle.ob_mean.specs.Sequences.{IsOpening}
use Rattle.ob_store.specs.View.{state_of}
use Rattle.ob_mean.proofs.OpeningRuns.{opening_fault}
use Rattle.ob_mean.proofs.openings.opening.Goals as goal

pub returns-in_err-state-clause-fault : goal.returns-in_err-state-clause-fault
returns-in_err-state-clause-fault c =
    let stop = c.in_err-state.field-0.0 in
    let q = err_from_is_err_and c.from_residual.result c.from_residual.ensures.1 in
    rw (q.1, q.2)
    (subst (λ p. IsOpenFault p (of_stop stop)) c.program.ensures.program (opening_fault (program_of c.program.result.now) stop c.in_err-state.ensures))

pub returns-clause-state : goal.returns-clause-state
returns-clause-state c =
    subst (λ p. IsOpening p (state_of c.in_ok-state.state)) c.program.ensures.program c.in_ok-state.ensures
