-- One process more; at the end all.
use Rattle.std.proofs.Common.{◌≡◌, subst, ◌∙◌, arith, inl, inr}
use Rattle.std.proofs.lemmas.Bool.{cases_lt}
use Rattle.wf_order.specs.Rules.{IsAlike}
use Rattle.wf_order.specs.Search.{found_in}
use Rattle.wf_order.proofs.LeftOut.{alike_own}
use Rattle.wf_order.proofs.without.are_all_alike.Goals as goal

pub loop-process-init : goal.loop-process-init
loop-process-init g c = (c.requires.made, λ history at process lt. absurd (omega (arith, lt)))

pub is_alike-requires-clause-made : goal.is_alike-requires-clause-made
is_alike-requires-clause-made g c = c.loop-process.invariant.0

pub loop-process-preserved-then-process-by : goal.loop-process-preserved-then-process-by
loop-process-preserved-then-process-by g c = (
  c.loop-process.invariant.0,
  λ history at process lt.
      elim (cases_lt process c.loop-process.process) [
        | inl less ↦ c.loop-process.invariant.1 history at process less
        | inr ge ↦
            let same : process ≡ c.loop-process.process = omega (arith, lt, ge) in
            alike_own (g.O.Object.effect c.args.task.now.object.now) (λ call. g.met.O.Object.determined c.args.task.now.object.now call) history c.args.task.now.rows.now
            (found_in g.O.Object.meaning c.args.here.now.found.now) at.0 c.args.here.now.limit at.1 c.args.by (g.O.Object.meaning c.args.behind.now.state) process (same ∙ c.if-process-by.true)
      ],
)

pub loop-process-preserved : goal.loop-process-preserved
loop-process-preserved g c = (
  c.in_ok-is_alike.ensures.made,
  λ history at process lt.
      elim (cases_lt process c.loop-process.process) [
        | inl less ↦ c.loop-process.invariant.1 history at process less
        | inr ge ↦
            let same : c.loop-process.process ≡ process = omega (arith, lt, ge) in
            subst (IsAlike (g.O.Object.effect c.args.task.now.object.now) history (found_in g.O.Object.meaning c.args.here.now.found.now) c.args.by (g.O.Object.meaning c.args.behind.now.state)) same
            (c.in_ok-is_alike.ensures.alike history c.args.by at c.if-not-branch.false)
      ],
)

pub returns-clause-made : goal.returns-clause-made
returns-clause-made g c = c.loop-process.invariant.0

pub returns-clause-alike : goal.returns-clause-alike
returns-clause-alike g c = λ history at t process lt.
    c.loop-process.invariant.1 history at process (let past = c.loop-process-test.false in let size = c.len-process-end.ensures in omega (arith, lt, past, size))
