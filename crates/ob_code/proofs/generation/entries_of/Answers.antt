use Rattle.std.proofs.Common.{◌<◌, ◌≤◌, map, ap, sym, subst, ◌∙◌}
use Rattle.ob_code_scheme.specs.Types.{frame_scope}
use Rattle.ob_checked.specs.View.{table_of, program_of}
use Rattle.ob_layout.specs.Layout.{parts_of}
use Rattle.ob_code.specs.Entering.{procedures_size}
use Rattle.ob_code.proofs.Procedures.{left_of, entries_go, end_goes, end_fits, procedures_fit}
use Rattle.ob_code.proofs.generation.entries_of.Goals as goal

pub loop-number-preserved : goal.loop-number-preserved
loop-number-preserved c =
    let types = table_of c.args.program.now.types in
    let frames = (parts_of c.args.layout.now).frames in
    let items = c.deref-procedure-items.result.now in
    let are = c.requires.frames ∙ ap (λ ps. map frame_scope (left_of types ps)) (sym c.deref-procedure-items.ensures.value) in
    let i = c.loop-number.number in
    let p = c.procedure-item.result in
    let so_far = c.loop-number.invariant in
    let few = subst (λ ps. procedures_size (left_of types ps) ≤ 65535) (sym c.deref-procedure-items.ensures.value) (procedures_fit (program_of c.args.program.now) c.requires.fits) in
    let small = end_fits types frames items i p c.as_slice.result.now c.loop-number.end c.saturating_add-end.result c.statements_size-inside.result
    are c.loop-number-test.true c.procedure-item.is c.as_slice.ensures.value c.statements_size-inside.ensures c.saturating_add-end.ensures so_far.end_so_far few in
    record {
      places_so_far = entries_go types _ _ _ frames items i p c.as_slice.result.now c.loop-number.end c.saturating_add-end.result c.statements_size-inside.result
          are c.loop-number-test.true c.procedure-item.is c.as_slice.ensures.value c.statements_size-inside.ensures c.saturating_add-end.ensures
          c.in_ok-push.ensures.items so_far.places_so_far small;
      end_so_far = (end_goes types frames items i p c.as_slice.result.now c.loop-number.end c.saturating_add-end.result c.statements_size-inside.result
          are c.loop-number-test.true c.procedure-item.is c.as_slice.ensures.value c.statements_size-inside.ensures c.saturating_add-end.ensures so_far.end_so_far).0 small;
      fits = small;
    }
