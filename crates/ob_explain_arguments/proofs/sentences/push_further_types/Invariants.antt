-- What is pushed, and what is left to push.
use Rattle.std.proofs.Common.{◌≡◌, ◌++◌, drop, string_bytes}
use Rattle.ob_explain_arguments.specs.Sentences.{further_types}
use Rattle.ob_explain_arguments.proofs.sentences.push_further_types.Given as goal

abbrev pub invariant-loop-scalar_type : goal.invariant-loop-scalar_type
invariant-loop-scalar_type l =
    string_bytes l.sentence ++ further_types (drop l.scalar_type-index l.types) ≡ string_bytes l.fn.sentence ++ further_types l.types
