-- The site of a call from outside is that of its procedure in the store that it begins with.
use Rattle.std.proofs.Common.{◌≡◌, ap, sym, ◌∙◌, ℕ, List, Some}
use Rattle.std.specs.Prelude.{slice_get}
use Rattle.ob_interface.specs.declared.scalar.Scalar.{Scalar}
use Rattle.ob_interface.specs.Call.{ObjectCall}
use Rattle.ob_mean.specs.Outside.{outside_store}
use Rattle.ob_meaning.specs.ByPositionStore.{Activation, Store}
use Rattle.ob_trap_places.specs.TrapOfCall.{export_number, site_in_procedure, site_of_call}
use Rattle.ob_typing.specs.Program.{Procedure, Program, exports}
use Rattle.ob_trap_places.specs.Running.{site_in}

pub call_sited : (program checked : Program) (call : ObjectCall) (budget number : ℕ) (p : Procedure) (state copied : Activation) (store : Store) (arguments : List Scalar) →
    program ≡ checked → slice_get (exports program) call.export ≡ Some p → export_number program.procedures call.export ≡ number →
    store ≡ outside_store p copied arguments → copied ≡ state → arguments ≡ call.arguments →
    site_in program number p budget store ≡ site_of_call checked call budget state
call_sited program checked call budget number p state copied store arguments same found numbered begins copy given =
    ap (site_in program number p budget) (begins ∙ ap (λ s. outside_store p s arguments) copy ∙ ap (outside_store p state) given)
    ∙ ap (λ n. site_in program n p budget (outside_store p state call.arguments)) (sym numbered)
    ∙ ap (λ o. site_in_procedure program (export_number program.procedures call.export) o call.arguments budget state) (sym found)
    ∙ ap (λ q. site_of_call q call budget state) same
