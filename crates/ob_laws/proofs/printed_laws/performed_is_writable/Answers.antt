use Rattle.ob_object_compile.specs.Compilation.{IsAny, IsShort}
use Rattle.ob_laws.proofs.Runs.{writable_performance, writable_run}
use Rattle.wf_table.specs.Runs.{performed}
use Rattle.wf_play.specs.Played.{scripts_of}
use Rattle.ob_laws.proofs.printed_laws.performed_is_writable.Goals as goal

pub returns-clause-coded : goal.returns-clause-coded
returns-clause-coded c =
    writable_performance IsShort c.every_run.ensures c.legal_order.ensures c.states_are_objects.ensures c.orders_are_carried.ensures.by_name c.compilations_are_sound.ensures.coded

pub returns-clause-trees : goal.returns-clause-trees
returns-clause-trees c =
    writable_performance IsAny c.every_run.ensures c.legal_order.ensures c.states_are_objects.ensures c.orders_are_carried.ensures.by_name c.compilations_are_sound.ensures.trees

pub returns-clause-served : goal.returns-clause-served
returns-clause-served c = λ a scripts o calls r read shows events.
    let compiled = read.1.compiled in
    let so = c.compilations_are_sound.ensures.coded a o compiled in
    writable_run IsShort c.every_run.ensures c.legal_order.ensures c.states_are_objects.ensures c.orders_are_carried.ensures.by_name a o compiled so compiled.opens
    (performed (scripts_of calls) shows.state.records.schedule) shows.state shows.runs r shows.processes shows.budget shows.carried shows.history shows.order shows.schedule events
    (shows.meant compiled.opens.state compiled.opens.same)
