use Rattle.ob_checked.specs.CheckedModule.{program_in}
use Rattle.ob_carry.proofs.Exported.{told_of_slices}
use Rattle.ob_carry.proofs.Sets.{where_ok}
use Rattle.ob_carry.proofs.silent_exports.read_only_exports.Goals as goal

pub returns : goal.returns
returns c =
    where_ok _ _ c.told_of_exports.result
    (λ told zip.
    told_of_slices c.program.result.now (program_in c.args.checked.now) c.as_slice-procedures.result.now c.in_ok-spared.spared.items c.as_slice.result.now told.items
    c.program.ensures.program c.as_slice-procedures.ensures.value c.as_slice.ensures.value c.in_ok-spared.ensures zip)
    c.told_of_exports.ensures
