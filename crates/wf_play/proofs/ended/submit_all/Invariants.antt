-- The calls so far are submitted.
use Rattle.std.proofs.Common.{◌≡◌, map}
use Rattle.ob_text_words.specs.ScriptCalls.{script_call_of}
use Rattle.wf_play.specs.Played.{scripts_of}
use Rattle.wf_table.specs.Runs.{run, submissions}
use Rattle.wf_play.proofs.ended.submit_all.Given as goal

abbrev pub invariant-loop-call : goal.invariant-loop-call
invariant-loop-call g l =
    l.machine ≡ record l.initial.machine { state = run (g.E.Engine.meaning l.initial.machine.engine) l.initial.machine.sizes (submissions (scripts_of (map script_call_of l.yielded))) l.initial.machine.state }
