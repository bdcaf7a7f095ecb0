use Rattle.std.proofs.Common.{arith}
use Rattle.std.proofs.lemmas.Grind.{common_steps}
use Rattle.ob_text_record.specs.StateText.{announced_line}
use Rattle.ob_text_record.proofs.Each.{each_more}
use Rattle.ob_text_record.proofs.block_lines.push_announcements.Goals as goal

pub loop-p-preserved : goal.loop-p-preserved
loop-p-preserved c = grind (arith, common_steps, each_more (announced_line c.args.z c.args.shared.now.cell) c.loop-p.p)
