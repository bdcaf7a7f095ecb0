use Rattle.std.proofs.Common.{List, length, sym, ap, arith}
use Rattle.ob_interface.specs.declared.export.Formal.{Formal}
use Rattle.ob_checked.specs.CheckedModule.{program_in}
use Rattle.ob_checked.specs.View.{program_of}
use Rattle.ob_layout.specs.Layout.{parts_of}
use Rattle.ob_tree.proofs.Known.{few_at, frames_are, variables_are, few_in_block, small_frames}
use Rattle.ob_tree.proofs.engine.TreeEngineEngine.start.Goals as goal

pub arguments_in-arguments-requires : goal.arguments_in-arguments-requires
arguments_in-arguments-requires c =
    let e = c.args.self.now in
    let limit = few_at (program_in e.checked.now) e.well _ c.in-Some.export.now (sym c.in-Some.ensures) in
    let same = ap (λ (fs : List Formal). length fs) c.parameters.ensures in
    omega (arith, limit, same)

pub start-requires-clause-frames : goal.start-requires-clause-frames
start-requires-clause-frames c =
    let e = c.args.self.now in
    frames_are (parts_of e.layout.now) (program_in e.checked.now) (program_of c.program-program.result.now) e.laid c.program-program.ensures.program

pub start-requires-clause-variables : goal.start-requires-clause-variables
start-requires-clause-variables c =
    let e = c.args.self.now in
    variables_are (parts_of e.layout.now) (program_in e.checked.now) (program_of c.program-program.result.now) e.laid c.program-program.ensures.program

pub start-requires-clause-few : goal.start-requires-clause-few
start-requires-clause-few c =
    let e = c.args.self.now in
    few_in_block (program_in e.checked.now) (program_of c.program-program.result.now) e.well c.program-program.ensures.program

pub start-requires-clause-small : goal.start-requires-clause-small
start-requires-clause-small c =
    let e = c.args.self.now in
    small_frames (program_in e.checked.now) (program_of c.program-program.result.now) e.well c.program-program.ensures.program
