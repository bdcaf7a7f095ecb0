use Rattle.std.proofs.Common.{◌+◌, ◌*◌, map, ap, ◌∙◌}
use Rattle.ob_checked.specs.CheckedModule.{program_in}
use Rattle.ob_checked.specs.View.{procedure_of, table_of}
use Rattle.ob_layout.specs.Counted.{counted}
use Rattle.ob_tree.proofs.Known.{counted_tasks}
use Rattle.ob_tree_law.specs.TreeEngine.{work_room}
use Rattle.ob_tree_law.specs.Reserve.{activation_most}
use Rattle.ob_typing.specs.Program.{Program}
use Rattle.ob_tree.proofs.reserve.room_for_work.Goals as goal

pub returns : goal.returns
returns c =
    let types = table_of c.program.result.now.types in
    counted_tasks c.work_tasks.result (work_room (program_in c.args.checked.now))
    (c.work_tasks.ensures types ∙ ap (λ ps. counted (64 * activation_most (map (procedure_of types) ps) + 3)) c.as_slice.ensures.value
    ∙ ap (λ (p : Program). counted (work_room p)) c.program.ensures.program)
    c.needs_little_room.ensures
