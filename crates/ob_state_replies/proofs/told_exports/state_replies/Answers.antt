use Rattle.ob_checked.specs.CheckedModule.{program_in}
use Rattle.ob_carry.proofs.Sets.{where_ok}
use Rattle.ob_state_replies.proofs.Exported.{told_of_program}
use Rattle.ob_state_replies.proofs.told_exports.state_replies.Goals as goal

pub returns : goal.returns
returns c =
    where_ok _ _ c.told_of_exports.result
    (λ told zip. told_of_program c.program.result.now (program_in c.args.checked.now) c.as_slice-procedures.result.now told.items c.program.ensures.program c.as_slice-procedures.ensures.value zip)
    c.told_of_exports.ensures
