-- The line that tells why no outcomes are printed.
use Rattle.std.specs.Prelude.{List, ◌++◌, codes}
use Rattle.ob_fault_lines.specs.ModuleFaultLines.{Text, no_memory_line}
use Rattle.ob_fault_lines.specs.SequentialFaultLines.{seq_fault_line}
use Rattle.ob_object_compile.specs.Asked.{Beginning}
use Rattle.ob_object_outcomes.specs.declared.finding.OutcomesFault.{OutcomesFault}
use Rattle.ob_object_outcomes.specs.declared.finding.OutcomesFault.TheVariants as Faults
use Rattle.ob_text_record.specs.RecordText.{ids_text}
use Rattle.wf_history.specs.declared.event.CallId.{CallId}

-- the calls behind which an export does not answer TRUE
abbrev pub not_always_line : List CallId → Text
not_always_line path = codes "X3" ++ ids_text path

abbrev pub outcomes_fault_line : Beginning → OutcomesFault → Text
outcomes_fault_line beginning (Faults.Texts e) = seq_fault_line beginning e
outcomes_fault_line beginning Faults.NoQuestion = codes "X5"
outcomes_fault_line beginning Faults.TooMany = codes "X2"
outcomes_fault_line beginning (Faults.NotAlways path) = not_always_line path.items
outcomes_fault_line beginning Faults.NoMemory = no_memory_line
