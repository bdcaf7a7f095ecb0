use Rattle.std.proofs.Common.{◌++◌, ◌+◌, map, ap, sym, subst, List, drop, arith, ◌∙◌}
use Rattle.ob_layout.specs.declared.frames.Frame.{Frame}
use Rattle.ob_layout.specs.Frames.{scope_by, frame_by, AreFrames}
use Rattle.ob_layout.specs.Shapes.{types_of}
use Rattle.ob_layout.specs.View.{shapes_of}
use Rattle.ob_layout.proofs.Framed.{largest_at, frames_more, scopes_more}
use Rattle.ob_layout.proofs.frames.Frame.of_procedures.Goals as goal

pub of_procedure-requires : goal.of_procedure-requires
of_procedure-requires c =
    let most = largest_at (types_of (shapes_of c.args.shapes.now)) c.args.procedures.now c.loop-procedure.procedure-index c.procedure-item.result c.loop-procedure-test.true c.procedure-item.is in
    omega (arith, most, c.requires)

pub loop-procedure-preserved : goal.loop-procedure-preserved
loop-procedure-preserved c =
    let ts = types_of (shapes_of c.args.shapes.now) in
    let items = c.in_ok-push.ensures.items in (
      subst (λ (fs : List Frame). AreFrames ts fs) (sym items) (frames_more ts c.loop-procedure.frames.items c.in_ok-frame.frame c.loop-procedure.invariant.0 c.in_ok-frame.ensures.frame),
      ap (λ (fs : List Frame). map (scope_by ts) fs ++ map (frame_by ts) (drop (c.loop-procedure.procedure-index + 1) c.args.procedures.now)) items
          ∙ scopes_more ts c.loop-procedure.frames.items c.in_ok-frame.frame c.args.procedures.now c.loop-procedure.procedure-index c.procedure-item.result
          c.loop-procedure-test.true c.procedure-item.is c.in_ok-frame.ensures.scope c.loop-procedure.invariant.1,
    )
