use Rattle.std.proofs.Common.{arith}
use Rattle.std.proofs.lemmas.Grind.{common_steps}
use Rattle.ll_cell.specs.Cell.{block_of}
use Rattle.ob_text_record.specs.StateText.{part_text}
use Rattle.ob_text_record.proofs.Each.{each_more}
use Rattle.ob_text_record.proofs.block_lines.push_parts.Goals as goal

pub loop-q-preserved : goal.loop-q-preserved
loop-q-preserved c = grind (arith, common_steps, each_more (part_text c.args.z (block_of c.args.shared.now.cell c.args.block)) c.loop-q.q)
