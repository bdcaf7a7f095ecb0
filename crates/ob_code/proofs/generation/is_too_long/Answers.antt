use Rattle.std.proofs.Common.{◌<◌, ◌≤◌, map, ap, sym, subst, ◌∙◌}
use Rattle.ob_code_scheme.specs.Types.{frame_scope}
use Rattle.ob_checked.specs.View.{table_of, program_of}
use Rattle.ob_layout.specs.Layout.{parts_of}
use Rattle.ob_code.specs.Entering.{procedures_size}
use Rattle.ob_code.proofs.Procedures.{left_of, end_goes, end_ends, code_fits, code_is_long}
use Rattle.ob_code.proofs.generation.is_too_long.Goals as goal

pub loop-number-preserved : goal.loop-number-preserved
loop-number-preserved c =
    let types = table_of c.args.program.now.types in
    let frames = (parts_of c.args.layout.now).frames in
    let items = c.deref-procedure-items.result.now in
    let are = c.requires ∙ ap (λ ps. map frame_scope (left_of types ps)) (sym c.deref-procedure-items.ensures.value) in
    let small = c.if-end-gt-LIMIT.false in
    record {
      end_so_far = (end_goes types frames items c.loop-number.number c.procedure-item.result c.as_slice.result.now c.loop-number.end c.saturating_add-end.result c.statements_size-inside.result
          are c.loop-number-test.true c.procedure-item.is c.as_slice.ensures.value c.statements_size-inside.ensures c.saturating_add-end.ensures c.loop-number.invariant.end_so_far).0 small;
      fits = small;
    }

pub returns-then-end-gt-LIMIT-clause-yes : goal.returns-then-end-gt-LIMIT-clause-yes
returns-then-end-gt-LIMIT-clause-yes c is =
    let types = table_of c.args.program.now.types in
    let frames = (parts_of c.args.layout.now).frames in
    let items = c.deref-procedure-items.result.now in
    let are = c.requires ∙ ap (λ ps. map frame_scope (left_of types ps)) (sym c.deref-procedure-items.ensures.value) in
    let long = (end_goes types frames items c.loop-number.number c.procedure-item.result c.as_slice.result.now c.loop-number.end c.saturating_add-end.result c.statements_size-inside.result
    are c.loop-number-test.true c.procedure-item.is c.as_slice.ensures.value c.statements_size-inside.ensures c.saturating_add-end.ensures c.loop-number.invariant.end_so_far).1 c.if-end-gt-LIMIT.true in
    code_is_long (program_of c.args.program.now) (subst (λ ps. 65535 < procedures_size (left_of types ps)) c.deref-procedure-items.ensures.value long)

pub returns-clause-no : goal.returns-clause-no
returns-clause-no c is =
    let types = table_of c.args.program.now.types in
    let items = c.deref-procedure-items.result.now in
    let same = end_ends types items c.loop-number.number c.loop-number.end _ c.loop-number-test.false c.loop-number.invariant.end_so_far in
    let small = subst (λ n. n ≤ 65535) same c.loop-number.invariant.fits in
    code_fits (program_of c.args.program.now) (subst (λ ps. procedures_size (left_of types ps) ≤ 65535) c.deref-procedure-items.ensures.value small)
