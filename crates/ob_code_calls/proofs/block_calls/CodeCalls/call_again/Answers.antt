use Rattle.std.proofs.Common.{◌∙◌, List, ap, subst, sym}
use Rattle.ob_code_calls.proofs.block_calls.CodeCalls.call_again.Goals as goal
use Rattle.ob_code_calls.specs.Calls.{asked, left_by}
use Rattle.ob_code_correct.specs.Compiled.{IsFitting}
use Rattle.ob_code_machine.specs.Body.{Run}
use Rattle.ob_interface.specs.declared.scalar.Scalar.{Scalar}
use Rattle.wf_table.specs.Meaning.{Turned}

pub run_through-requires-clause-fits : goal.run_through-requires-clause-fits
run_through-requires-clause-fits c =
    subst (λ (xs : List Scalar). ∥ IsFitting c.args.self.now.engine.parts.exports (asked c.args.call.now.proc xs) ∥₁) (sym c.as_slice.ensures) c.requires.fits

pub returns-clause-left : goal.returns-clause-left
returns-clause-left c =
    ap (λ (t : Turned Run). t.block) c.run_through.ensures.body
    ∙ ap (λ (xs : List Scalar). left_by c.args.self.now.engine.parts c.args.block.now (asked c.args.call.now.proc xs)) c.as_slice.ensures
