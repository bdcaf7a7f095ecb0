use Rattle.std.proofs.Common.{arith}
use Rattle.std.proofs.lemmas.Grind.{common_steps}
use Rattle.ob_text_record.specs.StateText.{own_line}
use Rattle.ob_text_record.proofs.Each.{each_more}
use Rattle.ob_text_record.proofs.block_lines.push_own_blocks.Goals as goal

pub loop-p-preserved : goal.loop-p-preserved
loop-p-preserved c = grind (arith, common_steps, each_more (own_line c.args.z c.args.shared.now.cell) c.loop-p.p)
