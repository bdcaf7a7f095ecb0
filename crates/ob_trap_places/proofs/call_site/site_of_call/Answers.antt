use Rattle.std.proofs.Common.{◌≡◌, IfOk, option_map, subst}
use Rattle.ob_checked.specs.CheckedModule.{program_in}
use Rattle.ob_checked.specs.View.{procedure_of, program_of, table_of}
use Rattle.ob_mean.specs.View.{call_of}
use Rattle.ob_store.specs.View.{state_of, store_in}
use Rattle.ob_trap_places.specs.Reaching.{site_of}
use Rattle.ob_trap_places.proofs.CallSite.{call_sited}
use Rattle.ob_trap_places.proofs.call_site.site_of_call.Goals as goal

pub returns-in_ok-store-in-Some : goal.returns-in_ok-store-in-Some
returns-in_ok-store-in-Some c =
    let program = c.program-program.result.now in
    subst (λ s. IfOk c.site_outside.result (λ found. option_map site_of found ≡ s))
    (call_sited (program_of program) (program_in c.args.checked.now) (call_of c.args.call.now) c.args.budget c.in-Some.number
    (procedure_of (table_of program.types) c.in-Some.procedure.now) (state_of c.args.state.now) (state_of c.in_ok-copy-in-Some.copy)
    (store_in c.in_ok-store-in-Some.store) c.as_slice-arguments.result.now
    c.program-program.ensures.program c.in-Some.ensures.0 c.in-Some.ensures.1 c.in_ok-store-in-Some.ensures c.in_ok-copy-in-Some.ensures c.as_slice-arguments.ensures.value)
    c.site_outside.ensures
