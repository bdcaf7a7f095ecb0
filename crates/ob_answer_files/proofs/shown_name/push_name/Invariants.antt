-- The characters so far.
use Rattle.std.proofs.Common.{◌≡◌, ◌++◌, string_bytes}
use Rattle.std.specs.List.{flat_map}
use Rattle.ob_answer_files.specs.ShownNames.{shown_character}
use Rattle.ob_answer_files.proofs.shown_name.push_name.Given as goal

abbrev pub invariant-loop-character : goal.invariant-loop-character
invariant-loop-character l = string_bytes l.text ≡ string_bytes l.fn.text ++ flat_map shown_character l.yielded
