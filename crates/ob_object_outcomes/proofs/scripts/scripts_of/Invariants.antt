use Rattle.std.proofs.Common.{◌≡◌, map}
use Rattle.ob_object_outcomes.specs.Scripts.{scripts_by}
use Rattle.ob_text_words.specs.ScriptCalls.{script_call_of}
use Rattle.wf_outcomes.specs.Explored.{calls_in}
use Rattle.ob_object_outcomes.proofs.scripts.scripts_of.Given as goal

abbrev pub invariant-loop-process : goal.invariant-loop-process
invariant-loop-process l = calls_in l.scripts.items ≡ scripts_by l.process (map script_call_of l.calls)
