use Rattle.std.proofs.Common.{◌<◌, ℕ, [], get_or, map}
use Rattle.ob_desk_serve.specs.ServeFaults.{IsToldAll}
use Rattle.ob_text_words.specs.ScriptCalls.{script_call_of}
use Rattle.wf_history.specs.View.{event_of}
use Rattle.ob_desk_serve.proofs.answers.first_lost.Given as goal

abbrev pub invariant-loop-process : goal.invariant-loop-process
invariant-loop-process l =
    (p : ℕ) → p < l.process → IsToldAll (map event_of l.events) (map script_call_of l.scripts) (λ k. get_or (map (λ list. list.items) l.answers) k []) p
