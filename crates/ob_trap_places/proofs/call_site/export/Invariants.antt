use Rattle.std.proofs.Common.{◌≡◌, ◌+◌, drop, map}
use Rattle.std.specs.Prelude.{filter, slice_get}
use Rattle.ob_checked.specs.View.{procedure_of, table_of}
use Rattle.ob_trap_places.specs.TrapOfCall.{export_number}
use Rattle.ob_typing.specs.Program.{Procedure}
use Rattle.ob_trap_places.proofs.call_site.export.Given as goal

-- the export that is looked for is the same among the procedures that are left, and so is its number
abbrev pub invariant-loop-position : goal.invariant-loop-position
invariant-loop-position l =
    (slice_get (filter (λ (p : Procedure). p.is_exported) (map (procedure_of (table_of l.program.types)) (drop l.position l.procedure-items))) l.left
    ≡ slice_get (filter (λ (p : Procedure). p.is_exported) (map (procedure_of (table_of l.program.types)) l.procedure-items)) l.number)
    × (l.position + export_number (map (procedure_of (table_of l.program.types)) (drop l.position l.procedure-items)) l.left
    ≡ export_number (map (procedure_of (table_of l.program.types)) l.procedure-items) l.number)
