use Rattle.std.proofs.Common.{◌≡◌, ◌+◌, ◌-◌, ◌≤◌, drop, length}
use Rattle.std.specs.Prelude.{slice_get}
use Rattle.ob_grammar.specs.View.{procedures_in}
use Rattle.ob_trap_places.specs.Places.{bodies_in}
use Rattle.ob_trap_places.proofs.procedure_bodies.+procedures.Given as goal

-- the body that is looked for is the same among those that are left, and those that were passed are counted
abbrev pub invariant-body_among-loop-procedure : goal.invariant-body_among-loop-procedure
invariant-body_among-loop-procedure l =
    (slice_get (bodies_in (procedures_in (drop l.procedure-index l.procedures))) l.left ≡ slice_get (bodies_in (procedures_in l.procedures)) l.number)
    × ((l.number - l.left + length (bodies_in (procedures_in (drop l.procedure-index l.procedures))) ≡ length (bodies_in (procedures_in l.procedures)))
    × (l.left ≤ l.number))
