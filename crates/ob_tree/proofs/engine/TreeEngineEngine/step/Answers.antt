use Rattle.std.proofs.Common.{ap}
use Rattle.ob_checked.specs.CheckedModule.{program_in}
use Rattle.ob_checked.specs.View.{program_of}
use Rattle.ob_layout.specs.Layout.{parts_of}
use Rattle.ob_code_scheme.specs.Types.{variables_scope}
use Rattle.ob_tree.proofs.Known.{frames_are, variables_are, small_frames}
use Rattle.ob_tree.proofs.engine.TreeEngineEngine.step.Goals as goal

pub step-requires-clause-globals : goal.step-requires-clause-globals
step-requires-clause-globals c =
    let e = c.args.self.now in
    ap variables_scope (variables_are (parts_of e.layout.now) (program_in e.checked.now) (program_of c.program.result.now) e.laid c.program.ensures.program)

pub step-requires-clause-frames : goal.step-requires-clause-frames
step-requires-clause-frames c =
    let e = c.args.self.now in
    frames_are (parts_of e.layout.now) (program_in e.checked.now) (program_of c.program.result.now) e.laid c.program.ensures.program

pub step-requires-clause-small : goal.step-requires-clause-small
step-requires-clause-small c =
    let e = c.args.self.now in
    small_frames (program_in e.checked.now) (program_of c.program.result.now) e.well c.program.ensures.program
