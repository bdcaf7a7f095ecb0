-- How the blocks of an object are kept.
use Rattle.std.specs.Prelude.{◌+◌}
use Rattle.ll_cell.specs.declared.form.Form.{Form}
use Rattle.wf_table.specs.declared.process.Sizes.{Sizes}

-- the variables, and for each process a part: status, results, and the toggle, which is a bit
abbrev pub packed : Sizes → Form
packed z = record { head = z.variables; parts = z.processes; part = z.replies + 2 }
