-- Where the trap of a call from outside comes from, and that of the opening.
use Rattle.std.specs.Prelude.{ℕ, zero, suc, ◌-◌, List, [], ◌∷◌, slice_get, Option, Some, None, if◌then◌else◌}
use Rattle.ob_interface.specs.declared.scalar.Scalar.{Scalar}
use Rattle.ob_interface.specs.Call.{ObjectCall, Reply, Answers, Trapped}
use Rattle.ob_typing.specs.Program.{Procedure, Program, exports}
use Rattle.ob_meaning.specs.ByNameObject.{most_activations}
use Rattle.ob_meaning.specs.OverStore.{Outcome, Done, Trap}
use Rattle.ob_meaning.specs.ByPositionStore.{Activation, Store}
use Rattle.ob_meaning.specs.ByPositionStatements.{activation_of, begun}
use Rattle.ob_meaning.specs.ByPositionObject.{results_begun, outside_handed}
use Rattle.ob_meaning.specs.ByPositionEvaluation.{by_position}
use Rattle.ob_trap_places.specs.Site.{Site, Sited, of_procedure, site_of}
use Rattle.ob_trap_places.specs.SitesOverStore.{meaning_of_all, calls}

-- the number, in the order of headings, of the procedure that is the export of a number
abbrev pub export_number : List Procedure → ℕ → ℕ
export_number [] k = 0
export_number (p ∷ ps) zero = if p.is_exported then 0 else suc (export_number ps zero)
export_number (p ∷ ps) (suc k) = suc (export_number ps (if p.is_exported then k else suc k))

-- the statements of this procedure, of this number, run from outside
abbrev pub run_outside : Program → (number : ℕ) → Procedure → List Scalar → (budget : ℕ) → Activation → Sited (ℕ × Store)
run_outside program number p arguments budget state =
    of_procedure number
    (meaning_of_all by_position (calls by_position program (most_activations - 1)) 0 p.body budget
    (state ∷ results_begun p.parameters ∷ activation_of p (outside_handed 0 p.parameters arguments) ∷ []))

abbrev pub site_in_procedure : Program → (number : ℕ) → Option Procedure → List Scalar → (budget : ℕ) → Activation → Option Site
site_in_procedure program number None arguments budget state = None
site_in_procedure program number (Some p) arguments budget state =
    site_of (run_outside program number p arguments budget state)

-- where the trap of one call on the object comes from, if it traps
abbrev pub site_of_call : Program → ObjectCall → (budget : ℕ) → Activation → Option Site
site_of_call program call budget state =
    site_in_procedure program (export_number program.procedures call.export)
    (slice_get (exports program) call.export) call.arguments budget state

-- what the opening comes to
abbrev pub opening : Program → (turns : ℕ) → Sited (ℕ × Store)
opening program turns =
    meaning_of_all by_position (calls by_position program most_activations) 0 program.body turns (begun program.variables ∷ [])

-- where the trap of the opening comes from, if it traps
abbrev pub site_of_opening : Program → (turns : ℕ) → Option Site
site_of_opening program turns = site_of (opening program turns)

-- the number of the trap that a reply tells, if it tells one
abbrev pub trap_of : Reply → Option ℕ
trap_of (Answers values) = None
trap_of (Trapped k) = Some k

-- the number of the trap by which a run ends, if it traps
abbrev pub trap_of_run : Outcome Store → Option ℕ
trap_of_run (Done turns store) = None
trap_of_run (Trap k) = Some k
