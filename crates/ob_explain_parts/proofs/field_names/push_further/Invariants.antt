-- What has been appended so far.
use Rattle.std.proofs.Common.{◌≡◌, ◌++◌, take}
use Rattle.ob_explain_parts.specs.FieldNames.{further}
use Rattle.ob_explain_parts.proofs.field_names.push_further.Given as goal

abbrev pub invariant-loop-field : goal.invariant-loop-field
invariant-loop-field l = l.names.items ≡ l.fn.names.items ++ further l.text (take l.field-index l.fields)
