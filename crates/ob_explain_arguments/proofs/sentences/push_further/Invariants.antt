-- What is pushed, and what is left to push.
use Rattle.std.proofs.Common.{◌≡◌, ◌++◌, drop, map, string_bytes}
use Rattle.ob_explain_arguments.specs.Sentences.{further_names}
use Rattle.ob_interface.specs.View.{signature_of}
use Rattle.ob_explain_arguments.proofs.sentences.push_further.Given as goal

abbrev pub invariant-loop-export : goal.invariant-loop-export
invariant-loop-export l =
    string_bytes l.sentence ++ further_names (map signature_of (drop l.export-index l.exports))
    ≡ string_bytes l.fn.sentence ++ further_names (map signature_of l.exports)
