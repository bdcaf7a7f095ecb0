-- A record is one of no more processes than an object has.
use Rattle.std.proofs.Common.{ℕ, List, Option, ◌≤◌}
use Rattle.ob_interface.specs.Processes.{most_processes}
use Rattle.ob_meaning.specs.ByPositionStore.{Activation}
use Rattle.ob_text_reading.specs.RecordLines.{IsCount, IsHead, IsRecordOf, Line, Told, count, of_version_1, of_version_2, of_version_3}
use Rattle.ob_typing.specs.Program.{Program, Variable}

count_few : (line : Line) (n : ℕ) → IsCount line n → n ≤ most_processes
count_few _ _ (count _ _ few) = few

head_few : (variables : List Variable) (lines : List Line) (n budget : ℕ) (carried : Option Activation) → IsHead variables lines n budget carried → n ≤ most_processes
head_few variables _ n _ _ (of_version_1 {second = second} title counts) = count_few second n counts
head_few variables _ n _ _ (of_version_2 {second = second} title counts budget) = count_few second n counts
head_few variables _ n _ _ (of_version_3 {second = second} title counts budget each) = count_few second n counts

pub record_few : (program : Program) (lines : List Line) (t : Told) → IsRecordOf program lines t → t.processes ≤ most_processes
record_few program lines t r = head_few program.variables r.head t.processes t.budget t.carried r.heads
