use Rattle.std.proofs.Common.{◌≡◌, map, take}
use Rattle.ob_desk_floor.specs.Submission.{submission_of}
use Rattle.ob_text_words.specs.ScriptCalls.{script_call_of}
use Rattle.wf_play.specs.Played.{scripts_of}
use Rattle.ob_desk_serve.proofs.object_desk.submissions.Given as goal

abbrev pub invariant-loop-script : goal.invariant-loop-script
invariant-loop-script l = map submission_of l.submissions.items ≡ scripts_of (map script_call_of (take l.script-index l.scripts))
