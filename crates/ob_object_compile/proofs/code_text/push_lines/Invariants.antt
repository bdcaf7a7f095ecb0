use Rattle.std.proofs.Common.{◌≡◌, ◌-◌, ◌++◌}
use Rattle.std.specs.Prelude.{string_bytes}
use Rattle.ob_object_compile.specs.Listing.{lines_from}
use Rattle.ob_object_compile.proofs.code_text.push_lines.Given as goal

abbrev pub invariant-loop-place : goal.invariant-loop-place
invariant-loop-place l =
    string_bytes l.text ++ lines_from l.code.instructions l.place (l.to - l.place)
    ≡ string_bytes l.initial.text ++ lines_from l.code.instructions l.from (l.to - l.from)
