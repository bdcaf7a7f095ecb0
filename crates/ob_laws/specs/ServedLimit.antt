-- What the calls of a record of workers take of their processes.
use Rattle.std.specs.Prelude.{ℕ, List}
use Rattle.ob_code_correct.specs.CodeMeaning.{code_meaning}
use Rattle.ob_code_engine.specs.Total.{body_limit}
use Rattle.ob_desk_serve.specs.PromisesOfServeTexts.{IsServedPrinted}
use Rattle.ob_object_compile.specs.Asked.{Asked}
use Rattle.ob_object_run.specs.KeepsBound.{KeepsLimit}
use Rattle.wf_play.specs.Played.{scripts_of}

-- Behind each beginning of the schedule of a record that workers printed, no call has taken more own steps than the promised number and,
-- in each of 2n bodies, one time more than its budget as many as the code has instructions.
abbrev pub ServedKeepTotal : Type 0
ServedKeepTotal =
    (a : Asked) (scripts output : List ℕ) → (s : IsServedPrinted a scripts output) →
    KeepsLimit (code_meaning s.object.engine) s.object.processes (scripts_of s.calls) s.is_record.runs.start (body_limit s.object.engine) s.shown.schedule
