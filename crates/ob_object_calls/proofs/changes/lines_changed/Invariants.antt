-- The lines so far, and those of the lines that are left, are those of all.
use Rattle.std.proofs.Common.{◌≡◌, ◌++◌, drop, length, map, string_bytes}
use Rattle.ob_object_calls.specs.DetailLines.{lines_changed}
use Rattle.ob_object_calls.proofs.changes.lines_changed.Given as goal

abbrev pub invariant-loop-old : goal.invariant-loop-old
invariant-loop-old l =
    string_bytes l.text ++ lines_changed (drop (length l.yielded) (map string_bytes l.before)) (drop (length l.yielded) (map string_bytes l.after))
    ≡ lines_changed (map string_bytes l.before) (map string_bytes l.after)
