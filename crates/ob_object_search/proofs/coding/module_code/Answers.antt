use Rattle.ob_checked.specs.CheckedModule.{program_in}
use Rattle.ob_code_calls.specs.Parts.{parts_in}
use Rattle.ob_object_search.proofs.ByCode.{has_code}
use Rattle.ob_object_search.proofs.coding.module_code.Goals as goal

pub returns : goal.returns
returns c =
    has_code (program_in c.args.checked.now) (parts_in c.in_ok-calls.calls) c.args.budget c.new-2.result c.new-2.ensures c.in_ok-calls.ensures c.checked_is_well_formed.ensures
