-- The line that tells each fault of a run by a schedule.
use Rattle.std.specs.Prelude.{ℕ, ◌++◌, codes, decimal}
use Rattle.ob_object_compile.specs.Asked.{Beginning}
use Rattle.ob_object_perform.specs.declared.performing.PerformFault.{PerformFault}
use Rattle.ob_object_perform.specs.declared.performing.PerformFault.TheVariants as Faults
use Rattle.ob_text_words.specs.declared.schedule_texts.ScheduleFault.{ScheduleFault}
use Rattle.ob_text_words.specs.declared.schedule_texts.ScheduleFault.TheVariants as Schedule
use Rattle.ob_fault_lines.specs.CompileFaultLines.{compile_line}
use Rattle.ob_fault_lines.specs.ModuleFaultLines.{Text, no_memory_line}
use Rattle.ob_fault_lines.specs.ScriptFaultLines.{script_line}

-- at an item of the schedule
abbrev pub at_item : Text → ℕ → Text
at_item fault item = fault ++ codes " item " ++ decimal item

abbrev pub schedule_line : ScheduleFault → Text
schedule_line (Schedule.Form item) = at_item (codes "Q1") item
schedule_line (Schedule.Process item) = at_item (codes "Q2") item
schedule_line Schedule.NoMemory = no_memory_line

abbrev pub run_fault_line : Beginning → PerformFault → Text
run_fault_line beginning (Faults.Compile e) = compile_line beginning e
run_fault_line beginning (Faults.Script e) = script_line e
run_fault_line beginning (Faults.Schedule e) = schedule_line e
run_fault_line beginning (Faults.TooLong item) = at_item (codes "Q3") item
run_fault_line beginning Faults.NoMemory = no_memory_line
