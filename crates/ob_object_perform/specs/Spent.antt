-- What is printed of a run from texts beside its record: of each call that ended its own steps.
use Rattle.std.specs.Prelude.{◌≡◌, ℕ, ◌++◌, List, codes, decimal}
use Rattle.std.specs.List.{flat_map}
use Rattle.ob_code_correct.specs.CodeMeaning.{code_meaning}
use Rattle.ob_code_correct.specs.Compiled.{HasReserve}
use Rattle.ob_code_scheme.specs.Layout.{encoded}
use Rattle.ob_object_compile.specs.Compilation.{ObjectParts}
use Rattle.ob_object_perform.specs.Performance.{IsPerformance}
use Rattle.ob_object_perform.specs.Printed.{IsRecordPrinted}
use Rattle.ob_object_perform.specs.Texts.{Texts}
use Rattle.ob_text_record.specs.Record.{Record}
use Rattle.ob_text_record.specs.RecordText.{id_text}
use Rattle.ob_text_words.specs.ScriptCalls.{ScriptCall}
use Rattle.ob_typing.specs.Program.{Program}
use Rattle.wf_play.specs.Played.{scripts_of}
use Rattle.wf_play.specs.Ended.{AreEndedOf}
use Rattle.wf_play.specs.declared.ended.EndedCall.{EndedCall}
use Rattle.wf_table.specs.Schedule.{steps_of}

-- the calls that end in a run of these calls on an object, by the steps of the record's schedule, in the order of their ends
abbrev pub AreEndedIn : ObjectParts → List ScriptCall → Record → List EndedCall → Type 0
AreEndedIn o calls r ended =
    AreEndedOf (code_meaning o.engine) (HasReserve o.engine) o.processes (encoded o.opening) (scripts_of calls) (steps_of r.schedule) ended

-- the record is that of a run from the texts, the program that of its object, and these are the calls that ended in it
pub record IsWithSteps (t : Texts) (program : Program) (r : Record) (ended : List EndedCall) : Type 0 where
  pub performs : IsPerformance t r
  pub program_is : program ≡ performs.object.program
  pub ended_are : AreEndedIn performs.object performs.calls r ended

-- p.k, a space, and the call's own steps
abbrev pub steps_line : EndedCall → List ℕ
steps_line call = id_text call.id ++ codes " " ++ decimal call.steps ++ codes "\n"

abbrev pub steps_text : List EndedCall → List ℕ
steps_text = flat_map steps_line

-- the bytes are the text of the record of a run from the texts, and beside it a line for each call that ended in that run
pub record IsPrintedWithSteps (t : Texts) (output lines : List ℕ) : Type 0 where
  pub run : IsRecordPrinted t output
  pub ended : List EndedCall
  pub ended_are : AreEndedIn run.performs.object run.performs.calls run.shown ended
  pub lines_are : lines ≡ steps_text ended
