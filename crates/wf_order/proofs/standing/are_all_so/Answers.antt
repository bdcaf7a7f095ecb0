-- One process more; at the end all.
use Rattle.std.proofs.Common.{◌≡◌, subst, arith, inl, inr}
use Rattle.std.proofs.lemmas.Bool.{cases_lt}
use Rattle.wf_order.specs.Rules.{AreSo}
use Rattle.wf_order.specs.Search.{found_in}
use Rattle.wf_order.proofs.standing.are_all_so.Goals as goal

pub loop-process-init : goal.loop-process-init
loop-process-init g c = (c.requires.made, λ history at process lt. absurd (omega (arith, lt)))

pub comes_so-requires-clause-made : goal.comes_so-requires-clause-made
comes_so-requires-clause-made g c = c.loop-process.invariant.0

pub loop-process-preserved : goal.loop-process-preserved
loop-process-preserved g c = (
  c.in_ok-comes_so.ensures.made,
  λ history at process lt.
      elim (cases_lt process c.loop-process.process) [
        | inl less ↦ c.loop-process.invariant.1 history at process less
        | inr ge ↦
            let same : c.loop-process.process ≡ process = omega (arith, lt, ge) in
            subst (AreSo (g.O.Object.effect c.args.task.now.object.now) history (found_in g.O.Object.meaning c.args.here.now.found.now) (g.O.Object.meaning c.args.before.now.state)) same
            (c.in_ok-comes_so.ensures.so history at c.if-not-branch.false)
      ],
)

pub returns-clause-made : goal.returns-clause-made
returns-clause-made g c = c.loop-process.invariant.0

pub returns-clause-so : goal.returns-clause-so
returns-clause-so g c = λ history at t process lt.
    c.loop-process.invariant.1 history at process (let past = c.loop-process-test.false in let size = c.len-process-end.ensures in omega (arith, lt, past, size))
