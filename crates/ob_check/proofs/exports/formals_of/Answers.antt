use Rattle.std.proofs.Common.{◌≡◌, ◌+◌, ◌++◌, map, drop, sym, ap, ◌∙◌}
use Rattle.ob_interface.specs.declared.export.Formal.{Formal}
use Rattle.ob_checked.specs.Exports.{formal_of}
use Rattle.ob_checked.specs.View.{parameter_of, table_of}
use Rattle.ob_scopes.proofs.Lists.{next_left}
use Rattle.ob_check.proofs.Exported.{formals_more}
use Rattle.ob_check.proofs.exports.formals_of.Goals as goal

pub loop-parameter-preserved : goal.loop-parameter-preserved
loop-parameter-preserved c =
    let types = table_of c.args.types.now in
    let l = c.loop-parameter in
    let p = c.parameter-item.result in
    let rest = drop (l.parameter-index + 1) c.args.parameters.now in
    let f : Formal = record { is_var = p.is_var; scalar_type = c.scalar_type_of.result } in
    let same : f ≡ formal_of (parameter_of types p) = ap (λ t. record { is_var = p.is_var; scalar_type = t }) c.scalar_type_of.ensures in
    let next = next_left c.args.parameters.now l.parameter-index p c.loop-parameter-test.true c.parameter-item.is in
    ap (λ fs. fs ++ map formal_of (map (parameter_of types) rest)) c.in_ok-push.ensures.items ∙ formals_more types l.formals.items f p rest same
    ∙ ap (λ ps. l.formals.items ++ map formal_of (map (parameter_of types) ps)) (sym next) ∙ l.invariant
