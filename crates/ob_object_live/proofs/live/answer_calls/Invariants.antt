-- So many of the calls were made.
use Rattle.std.proofs.Common.{map, string_bytes, take}
use Rattle.ob_object_live.specs.Living.{ground_of}
use Rattle.ob_object_live.proofs.CallMade.{SoFar}
use Rattle.ob_text_words.specs.ScriptCalls.{script_call_of}
use Rattle.ob_object_live.proofs.live.answer_calls.Given as goal

abbrev pub invariant-loop-call : goal.invariant-loop-call
invariant-loop-call l = SoFar (ground_of l.fn.live.ground) l.fn.live (take l.call-index (map script_call_of l.calls)) (string_bytes l.lines) l.live
