use Rattle.std.proofs.Common.{◌≡◌, drop}
use Rattle.ob_code_scheme.specs.Scheme as Scheme
use Rattle.ob_code_scheme.specs.Types.{variables_scope}
use Rattle.ob_checked.specs.View.{table_of}
use Rattle.ob_layout.specs.Layout.{parts_of}
use Rattle.ob_code.specs.Entering.{entry_in}
use Rattle.ob_code.proofs.Procedures.{left_of, with_procedures, code_with}
use Rattle.ob_code.proofs.generation.put_procedures.Given as goal

-- the code so far with that of the procedures that are left
abbrev pub invariant-loop-number : goal.invariant-loop-number
invariant-loop-number l =
    let types = table_of l.program.types in
    let globals = variables_scope (parts_of l.layout).variables in
    with_procedures types globals (entry_in l.entries) l.code (drop l.number l.procedure-items)
    ≡ code_with (Scheme.procedures_at globals (entry_in l.entries) 0 (left_of types l.procedure-items)) (Scheme.entries_from 0 (left_of types l.procedure-items))
