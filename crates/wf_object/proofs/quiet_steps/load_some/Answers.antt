use Rattle.std.proofs.Common.{◌+◌, ◌*◌, ◌<◌, ◌≤◌, refl, ◌∙◌, arith}
use Rattle.ll_cell.specs.Cell.{copy_own}
use Rattle.wf_records.specs.Spending.{outside_more}
use Rattle.wf_object.specs.Blocks.{behind_loads}
use Rattle.wf_object.specs.Progress.{progress}
use Rattle.wf_object.proofs.Copying.{loads_unmarked, words_loaded}
use Rattle.wf_object.proofs.Progressing.{same_progress}
use Rattle.wf_object.proofs.quiet_steps.load_some.Goals as goal

pub returns-clause-leads : goal.returns-clause-leads
returns-clause-leads g c =
    let m = g.E.Engine.meaning c.args.engine.now in
    let h = c.requires in
    let q = c.args.q.now in
    let cell = c.args.shared.now.cell in
    let n = c.args.outside.now in
    let k = c.words_ahead-words.result in
    let some : 0 < k = omega (arith, c.if-words-eq0.false) in
    let within : q.registers.i + k ≤ c.args.z.variables = rw (← c.q.view_is) (c.words_ahead-words.ensures.within some) in
    same_progress
    (progress c.load_words.new.shared.cell c.load_words.new.q (outside_more c.args.spent.now (n + 2 * k)))
    (progress (copy_own cell c.args.p q.registers.r q.registers.i k) (behind_loads cell k q) (outside_more c.args.spent.now (n + 2 * k)))
    c.load_words.ensures.cell c.load_words.ensures.process refl
    ∙ words_loaded m c.args.z h.sized c.args.p h.process cell h.shaped q h.in_range c.args.spent.now n h.here k (n + 2 * k) some within refl

pub returns-clause-unmarked : goal.returns-clause-unmarked
returns-clause-unmarked g c =
    let m = g.E.Engine.meaning c.args.engine.now in
    let h = c.requires in
    let q = c.args.q.now in
    let k = c.words_ahead-words.result in
    let some : 0 < k = omega (arith, c.if-words-eq0.false) in
    let within : q.registers.i + k ≤ c.args.z.variables = rw (← c.q.view_is) (c.words_ahead-words.ensures.within some) in
    loads_unmarked m c.args.z h.sized c.args.p h.process c.args.shared.now.cell h.shaped q h.in_range c.args.spent.now c.args.outside.now h.here k some within
