-- The openings so far.
use Rattle.std.proofs.Common.{map}
use Rattle.ob_checked.specs.View.{table_of, variable_of}
use Rattle.ob_store.specs.View.{variables_in}
use Rattle.ob_text_values_reading.specs.RecordTexts.{lines_behind}
use Rattle.ob_text_reading.proofs.Opened.{OpenedTo}
use Rattle.ob_text_reading.proofs.opening_values.read_openings.Given as goal

abbrev pub invariant-loop-variable : goal.invariant-loop-variable
invariant-loop-variable l =
    OpenedTo (map (variable_of (table_of l.types)) l.variables) (lines_behind l.fn.behind) (lines_behind l.left) (variables_in l.values.items) l.variable-index l.number
