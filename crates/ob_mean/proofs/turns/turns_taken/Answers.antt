use Rattle.std.proofs.Common.{arith, sym, ◌∙◌, ◌+◌}
use Rattle.ob_checked.specs.CheckedModule.{program_in}
use Rattle.ob_mean.specs.View.{call_of}
use Rattle.ob_store.specs.View.{state_of}
use Rattle.ob_mean.proofs.Least.{narrowed_last, narrowed_out}
use Rattle.ob_mean.proofs.turns.turns_taken.Goals as goal

pub loop-low-preserved-then-branch : goal.loop-low-preserved-then-branch
loop-low-preserved-then-branch c =
    narrowed_out (program_in c.args.checked.now) c.args.budget (call_of c.args.call.now) (state_of c.args.state.now)
    c.loop-low.low c.loop-low.high (c.loop-low.low + c.min.result) c.loop-low.invariant
    (omega (arith, c.min.ensures, c.loop-low-test.true)) (sym c.in_ok-runs_out.ensures ∙ c.if-branch.true)

pub returns : goal.returns
returns c =
    narrowed_last (program_in c.args.checked.now) c.args.budget (call_of c.args.call.now) (state_of c.args.state.now)
    c.loop-low.low c.loop-low.high c.loop-low.invariant (omega (arith, c.loop-low-test.false))
