use Rattle.std.proofs.Common.{◌≡◌, length, ap, sym, ◌∙◌, arith, below_more}
use Rattle.wf_table.specs.Meaning.{Turned}
use Rattle.wf_table.specs.declared.engine_turn.EngineTurn.TheVariants.{On}
use Rattle.wf_object.proofs.InBody.{is_turned, on_more}
use Rattle.wf_object.proofs.engine.Engine.steps.Goals as goal

pub loop-count-preserved : goal.loop-count-preserved
loop-count-preserved g c =
    let e = g.Self.Engine in
    let m = e.meaning c.args.self.now in
    let h = c.loop-count.invariant in
    let r = c.loop-count.run in
    let b = c.loop-count.block in
    let long : length b ≡ m.variables = omega (arith, c.requires.block) in
    record {
      ready = rw (c.step.ensures.run) ((g.met.Self.Engine.law c.args.self.now).step_ready r b h.ready long);
      on = below_more _ _ h.on (ap (λ (t : Turned _). t.turn) h.here);
      here = on_more m c.loop-count.count c.args.run.now c.args.block.now r b h.here ∙ is_turned m (m.step r b) On c.step.new.run c.step.new.block c.in-On.ensures.turn c.step.ensures.run c.step.ensures.block;
    }

pub returns-in_default-clause-on : goal.returns-in_default-clause-on
returns-in_default-clause-on g c =
    let h = c.loop-count.invariant in
    below_more _ _ h.on (ap (λ (t : Turned _). t.turn) h.here)

pub returns-in_default-clause-turn : goal.returns-in_default-clause-turn
returns-in_default-clause-turn g c =
    let m = g.Self.Engine.meaning c.args.self.now in
    let next = on_more m c.loop-count.count c.args.run.now c.args.block.now c.loop-count.run c.loop-count.block c.loop-count.invariant.here in
    c.step.ensures.turn ∙ sym (ap (λ (t : Turned _). t.turn) next)

pub returns-in_default-clause-run : goal.returns-in_default-clause-run
returns-in_default-clause-run g c =
    let m = g.Self.Engine.meaning c.args.self.now in
    let next = on_more m c.loop-count.count c.args.run.now c.args.block.now c.loop-count.run c.loop-count.block c.loop-count.invariant.here in
    c.step.ensures.run ∙ sym (ap (λ (t : Turned _). t.run) next)

pub returns-in_default-clause-block : goal.returns-in_default-clause-block
returns-in_default-clause-block g c =
    let m = g.Self.Engine.meaning c.args.self.now in
    let next = on_more m c.loop-count.count c.args.run.now c.args.block.now c.loop-count.run c.loop-count.block c.loop-count.invariant.here in
    c.step.ensures.block ∙ sym (ap (λ (t : Turned _). t.block) next)
