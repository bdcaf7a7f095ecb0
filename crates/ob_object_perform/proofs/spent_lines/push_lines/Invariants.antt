-- The calls so far.
use Rattle.std.proofs.Common.{◌≡◌, ◌++◌, take, string_bytes}
use Rattle.ob_object_perform.specs.Spent.{steps_text}
use Rattle.ob_object_perform.proofs.spent_lines.push_lines.Given as goal

abbrev pub invariant-loop-call : goal.invariant-loop-call
invariant-loop-call l = string_bytes l.text ≡ string_bytes l.fn.text ++ steps_text (take l.call-index l.ended)
