-- Words that are kept, to be put back.
use Rattle.std.specs.Prelude.{◌≡◌, map}
use Rattle.ob_code_calls.specs.Calls.{left_by_all}
use Rattle.ob_code_calls.specs.Parts.{parts_in}
use Rattle.ob_code_calls.specs.declared.standing_state.CodedState.{CodedState}
use Rattle.ob_interface.specs.View.{call_of}

-- nothing is changed but what is kept, and the calls that were made since lead from there to the words that stand
pub record IsKept (before after : CodedState) : Type 0 where
  pub calls : after.calls ≡ before.calls
  pub block : after.block.items ≡ before.block.items
  pub again : after.block.items ≡ left_by_all (parts_in after.calls) after.kept.items (map call_of after.since.items)
