use Rattle.std.proofs.Common.{map, ap, sym, ◌∙◌}
use Rattle.ob_code_scheme.specs.Types.{frame_scope, variables_scope}
use Rattle.ob_checked.specs.View.{table_of}
use Rattle.ob_layout.specs.Layout.{parts_of}
use Rattle.ob_code.specs.Entering.{entry_in, code_by}
use Rattle.ob_code.proofs.ConstructsWithin.{procedures_next}
use Rattle.ob_code.proofs.Procedures.{left_of, procedures_go}
use Rattle.ob_code.proofs.Within.{within}
use Rattle.ob_code.proofs.generation.put_procedures.Goals as goal

pub loop-number-preserved : goal.loop-number-preserved
loop-number-preserved c =
    let types = table_of c.args.program.now.types in
    let layout = parts_of c.args.layout.now in
    procedures_go types (variables_scope layout.variables) (entry_in c.args.entries.now) c.loop-number.code c.put_procedure.new.code _ layout.frames
    c.deref-procedure-items.result.now c.loop-number.number c.procedure-item.result
    (c.requires.frames ∙ ap (λ ps. map frame_scope (left_of types ps)) (sym c.deref-procedure-items.ensures.value))
    c.loop-number-test.true c.procedure-item.is c.in_ok-put_procedure.ensures c.loop-number.invariant

pub put_procedure-requires : goal.put_procedure-requires
put_procedure-requires c =
    let types = table_of c.args.program.now.types in
    let layout = parts_of c.args.layout.now in
    let globals = variables_scope layout.variables in
    let entry = entry_in c.args.entries.now in
    let items = c.deref-procedure-items.result.now in
    let same = ap (λ ps. code_by globals entry (left_of types ps)) c.deref-procedure-items.ensures.value in
    procedures_next types globals entry c.loop-number.code _ layout.frames items c.loop-number.number c.procedure-item.result
    (c.requires.frames ∙ ap (λ ps. map frame_scope (left_of types ps)) (sym c.deref-procedure-items.ensures.value))
    c.loop-number-test.true c.procedure-item.is c.loop-number.invariant (within _ _ same c.requires.limits)
