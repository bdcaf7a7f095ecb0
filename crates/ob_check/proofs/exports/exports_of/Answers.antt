use Rattle.std.proofs.Common.{◌≡◌, ◌+◌, ◌++◌, map, drop, Vec, sym, ap, ◌∙◌}
use Rattle.std.specs.declared.alloc.Global.{Global}
use Rattle.ob_interface.specs.declared.export.Export.{Export}
use Rattle.ob_interface.specs.View.{signature_of}
use Rattle.ob_checked.specs.View.{parameter_of, table_of}
use Rattle.ob_checked.specs.Exports.{formal_of}
use Rattle.ob_scopes.proofs.Lists.{next_left}
use Rattle.ob_check.proofs.Exported.{known_of, shown_more, hidden_more, same_signature}
use Rattle.ob_check.proofs.exports.exports_of.Goals.{then-procedure+in_ok-name+in_ok-formals+in_ok-push, else-procedure}
use Rattle.ob_check.proofs.exports.exports_of.Goals as goal

pub loop-procedure-preserved : goal.loop-procedure-preserved
loop-procedure-preserved c =
    let types = table_of c.args.program.now.types in
    let l = c.loop-procedure in
    let p = c.procedure-item.result in
    let all = c.as_slice-procedures.result.now in
    let rest = drop (l.procedure-index + 1) all in
    let next = next_left all l.procedure-index p c.loop-procedure-test.true c.procedure-item.is in
    let before = ap (λ ps. map signature_of l.exports.items ++ known_of types ps) (sym next) ∙ l.invariant in
    elim c.if-procedure.branch [
      | then-procedure+in_ok-name+in_ok-formals+in_ok-push w ↦
          let formals = w.in_ok-formals.ensures.formals ∙ ap (λ ps. map formal_of (map (parameter_of types) ps)) w.deref.ensures.value in
          let e : Export = record { name = w.in_ok-name.name; formals = w.in_ok-formals.formals } in
          ap (λ (v : Vec Export Global). map signature_of v.items ++ known_of types rest) w.exports-is
          ∙ ap (λ es. map signature_of es ++ known_of types rest) w.in_ok-push.ensures.items
          ∙ shown_more types l.exports.items e p rest w.if-procedure.true (same_signature types e p w.in_ok-name.ensures.cases formals) ∙ before
      | else-procedure w ↦
          ap (λ (v : Vec Export Global). map signature_of v.items ++ known_of types rest) w.exports-is
          ∙ ap (λ ss. map signature_of l.exports.items ++ ss) (hidden_more types p rest w.if-procedure.false) ∙ before
    ]
