use Rattle.std.proofs.Common.{◌+◌, ◌<◌, ◌≤◌, ap, ◌∙◌, arith, subst, inl, inr}
use Rattle.std.proofs.lemmas.Bool.{cases_lt}
use Rattle.wf_table.specs.declared.process.Label.{Label}
use Rattle.wf_table.specs.Ranges.{index_in}
use Rattle.wf_table.specs.StepTable.{Process}
use Rattle.wf_records.specs.Spending.{outside_more}
use Rattle.wf_object.specs.Progress.{progress}
use Rattle.wf_object.proofs.Copying.{saves_unmarked, words_saved}
use Rattle.wf_object.proofs.quiet_steps.save_some.Goals as goal

pub returns-clause-leads : goal.returns-clause-leads
returns-clause-leads g c =
    let m = g.E.Engine.meaning c.args._engine.now in
    let h = c.requires in
    let q = c.args.q.now in
    let cell = c.args.shared.now.cell in
    let n = c.args.outside.now in
    let k = c.words_ahead-words.result in
    let inside : q.registers.i < c.args.z.variables = (subst (λ (l : Label). index_in c.args.z l q.registers) h.here h.in_range.index).0 in
    let within : q.registers.i + k ≤ c.args.z.variables = elim (cases_lt 0 k) [
      | inl some ↦ rw (← c.q.view_is) (c.words_ahead-words.ensures.within some)
      | inr none ↦ omega (arith, inside, none)
    ] in
    ap (λ (u : Process _). progress cell u (outside_more c.args.spent.now (n + k))) c.save_words.ensures
    ∙ words_saved m c.args.z h.sized c.args.p h.process cell h.shaped q h.in_range c.args.spent.now n h.here k within

pub returns-clause-unmarked : goal.returns-clause-unmarked
returns-clause-unmarked g c =
    let m = g.E.Engine.meaning c.args._engine.now in
    let h = c.requires in
    let q = c.args.q.now in
    let k = c.words_ahead-words.result in
    let inside : q.registers.i < c.args.z.variables = (subst (λ (l : Label). index_in c.args.z l q.registers) h.here h.in_range.index).0 in
    let within : q.registers.i + k ≤ c.args.z.variables = elim (cases_lt 0 k) [
      | inl some ↦ rw (← c.q.view_is) (c.words_ahead-words.ensures.within some)
      | inr none ↦ omega (arith, inside, none)
    ] in
    saves_unmarked m c.args.z h.sized c.args.p h.process c.args.shared.now.cell h.shaped q h.in_range c.args.spent.now c.args.outside.now h.here k within
