-- The calls of the lines so far.
use Rattle.std.proofs.Common.{length, map, take}
use Rattle.ob_interface.specs.View.{signature_of}
use Rattle.ob_text_words.specs.Words.{lines, words}
use Rattle.ob_text_scripts.specs.Script.{AreLines}
use Rattle.ob_text_words.specs.ScriptCalls.{script_call_of}
use Rattle.ob_text_scripts.proofs.script.read_calls.Given as goal

abbrev pub invariant-loop-index : goal.invariant-loop-index
invariant-loop-index l =
    AreLines (map signature_of l.exports) l.processes (take (length l.yielded) (map words (lines l.text)))
    (map script_call_of l.calls.items)
