use Rattle.ob_object_compile.proofs.Listings.{line_more}
use Rattle.ob_object_compile.proofs.code_text.push_lines.Goals as goal

pub loop-place-preserved : goal.loop-place-preserved
loop-place-preserved c =
    line_more _ _ _ c.args.code.now.instructions c.loop-place.place c.args.to c.loop-place-test.true c.in_ok-push_line_at.ensures c.loop-place.invariant
