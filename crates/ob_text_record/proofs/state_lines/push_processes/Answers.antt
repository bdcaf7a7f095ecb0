use Rattle.std.proofs.Common.{arith}
use Rattle.std.proofs.lemmas.Grind.{common_steps}
use Rattle.ob_text_record.specs.StateText.{process_at}
use Rattle.ob_text_record.proofs.Each.{each_more}
use Rattle.ob_text_record.proofs.state_lines.push_processes.Goals as goal

pub loop-p-preserved : goal.loop-p-preserved
loop-p-preserved g c = grind (arith, common_steps, each_more (process_at c.args.machine.now.state) c.loop-p.p)
