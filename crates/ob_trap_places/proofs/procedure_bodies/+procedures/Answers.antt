use Rattle.std.proofs.Common.{◌≡◌, IfOk, IfErr, Some, length, ap, sym, subst, ◌∙◌}
use Rattle.std.specs.Prelude.{slice_get}
use Rattle.ob_grammar.specs.View.{procedures_in}
use Rattle.ob_grammar.proofs.Rows.{declarations_of-parts}
use Rattle.ob_trap_places.specs.Places.{bodies_of, bodies_in}
use Rattle.ob_trap_places.specs.Bodies.{body_in}
use Rattle.ob_trap_places.proofs.Found.{among_found, among_passed}
use Rattle.ob_trap_places.proofs.procedure_bodies.+procedures.Goals as goal

pub body_among-returns-in-Ok-clause-found : goal.body_among-returns-in-Ok-clause-found
body_among-returns-in-Ok-clause-found t c =
    among_found c.args.procedures.now c.loop-procedure.procedure-index c.loop-procedure.left c.args.number c.procedure-item.result c.loop-procedure-test.true c.procedure-item.is
    (body_in c.in-Ok.body.now) c.in-Ok.ensures.found c.loop-procedure.invariant.0

pub body_among-loop-procedure-preserved : goal.body_among-loop-procedure-preserved
body_among-loop-procedure-preserved t c =
    among_passed c.args.procedures.now c.loop-procedure.procedure-index c.loop-procedure.left c.args.number c.procedure-item.result c.loop-procedure-test.true c.procedure-item.is
    c.in-Err.count c.in-Err.ensures.count c.in-Err.ensures.none c.loop-procedure.invariant.1.1 c.loop-procedure.invariant.0 c.loop-procedure.invariant.1.0

pub body_at-returns-clause-found : goal.body_at-returns-clause-found
body_at-returns-clause-found t c =
    let d = c.args.declarations.now in
    let same = ap (λ ps. bodies_in (procedures_in ps)) c.deref.ensures.value ∙ sym (ap bodies_of (declarations_of-parts d)) in
    subst (λ bs. IfOk c.body_among.result (λ body. slice_get bs c.args.number ≡ Some (body_in body.now))) same c.body_among.ensures.found

pub body_at-returns-clause-count : goal.body_at-returns-clause-count
body_at-returns-clause-count t c =
    let d = c.args.declarations.now in
    let same = ap (λ ps. bodies_in (procedures_in ps)) c.deref.ensures.value ∙ sym (ap bodies_of (declarations_of-parts d)) in
    subst (λ bs. IfErr c.body_among.result (λ count. count ≡ length bs)) same c.body_among.ensures.count
