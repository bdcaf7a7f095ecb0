use Rattle.ob_checked.specs.CheckedModule.{program_in}
use Rattle.ob_object_draw.proofs.Few.{record_few}
use Rattle.ob_object_draw.proofs.record_pictures.read_few.Goals as goal

pub returns-clause-few : goal.returns-clause-few
returns-clause-few c = record_few (program_in c.args.checked.now) _ _ c.in_ok-read.ensures.record
