use Rattle.std.proofs.Common.{◌≡◌, ◌∙◌, ap, map}
use Rattle.ob_code_scheme.specs.Temporaries.{largest, largest_frame}
use Rattle.ob_checked.specs.CheckedModule.{program_in}
use Rattle.ob_checked.specs.View.{table_of}
use Rattle.ob_layout.specs.Frames.{frame_words_of}
use Rattle.ob_layout.specs.Shapes.{types_of}
use Rattle.ob_layout.specs.View.{shapes_of}
use Rattle.ob_layout.proofs.Counted.{variables_are, frames_are, block_small, largest_small, largest_counted, stack_counted, parts_are}
use Rattle.ob_layout.proofs.layout.Layout.of.Goals as goal

pub of_module-requires : goal.of_module-requires
of_module-requires c =
    block_small c.program-program.result.now (program_in c.args.checked.now) c.program-program.ensures.program (types_of (shapes_of c.in_ok-shapes.shapes)) c.in_ok-shapes.ensures
    c.as_slice-declared.result.now c.as_slice-declared.ensures.value c.keeps_limits.ensures

pub of_procedures-requires : goal.of_procedures-requires
of_procedures-requires c =
    largest_small c.program-program.result.now (program_in c.args.checked.now) c.program-program.ensures.program (types_of (shapes_of c.in_ok-shapes.shapes)) c.in_ok-shapes.ensures
    c.as_slice-procedures.result.now c.as_slice-procedures.ensures.value c.keeps_limits.ensures

pub returns : goal.returns
returns c =
    let p = c.program-program.result.now in
    let q = program_in c.args.checked.now in
    let is = c.program-program.ensures.program in
    let ts = types_of (shapes_of c.in_ok-shapes.shapes) in
    let same = c.in_ok-shapes.ensures in
    let ps = c.as_slice-procedures.result.now in
    let at = c.as_slice-procedures.ensures.value in
    let frame : c.largest-largest.result ≡ largest_frame q.procedures =
    c.largest-largest.ensures ∙ ap (λ fs. largest (map frame_words_of fs)) c.as_slice.ensures.value
    ∙ largest_counted p q is ts same ps at c.in_ok-frames.frames.items c.in_ok-frames.ensures.frames c.in_ok-frames.ensures.scopes in
    parts_are _ _ _ _ _ _
    (c.in_ok-variables.ensures ts ∙ variables_are p q is ts same c.as_slice-declared.result.now c.as_slice-declared.ensures.value)
    (c.in_ok-frames.ensures.scopes ∙ frames_are p q is ts same ps at)
    (stack_counted p q is ts same ps at _ _ _ frame (c.most_temporaries.ensures (table_of p.types)) c.stack_words-stack_words.ensures)
