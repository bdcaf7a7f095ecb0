-- The calls so far.
use Rattle.std.proofs.Common.{◌≡◌, ◌++◌, take, string_bytes}
use Rattle.ob_text_record.specs.RecordText.{ids_text}
use Rattle.ob_object_outcomes.proofs.line_kinds.push_ids.Given as goal

abbrev pub invariant-loop-id : goal.invariant-loop-id
invariant-loop-id l = string_bytes l.text ≡ string_bytes l.fn.text ++ ids_text (take l.id-index l.ids)
