-- Equal values are of equal variables.
use Rattle.std.proofs.Common.{◌∙◌, ap, sym}
use Rattle.ob_object_search.specs.Kept.{kept_in}
use Rattle.ob_store.proofs.Stored.{same_variables}
use Rattle.ob_store.specs.View.{variables_in}
use Rattle.ob_object_search.proofs.instance.ModuleObjectObject.copy.Goals as goal

pub returns-in_ok-copy_all-in-Values : goal.returns-in_ok-copy_all-in-Values
returns-in_ok-copy_all-in-Values c =
    same_variables c.in_ok-copy_all-in-Values.field-0.items c.as_slice-in-Values.result.now c.in_ok-copy_all-in-Values.ensures ∙ ap variables_in c.as_slice-in-Values.ensures.value
    ∙ sym (ap kept_in c.in-Values.is)
