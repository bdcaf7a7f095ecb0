use Rattle.std.proofs.Common.{◌+◌, ◌∷◌, ◌++◌, map, drop, sym, ap, ◌∙◌}
use Rattle.ob_grammar.proofs.Loops.{map-push}
use Rattle.ob_checked.specs.declared.program.Parameter.{Parameter}
use Rattle.ob_checked.specs.Types.{type_in, is_below}
use Rattle.ob_checked.specs.View.{parameter_of}
use Rattle.ob_scopes.specs.Objects.{known_parameters}
use Rattle.ob_scopes.proofs.Kept.{and_left, and_right}
use Rattle.ob_scopes.proofs.Lists.{next_left}
use Rattle.ob_rules.proofs.ParameterSteps.{parameter_pushed}
use Rattle.ob_check.proofs.headings.copies.Goals as goal

pub loop-parameter-preserved : goal.loop-parameter-preserved
loop-parameter-preserved c =
    let l = c.loop-parameter in
    let p = c.parameter-item.result in
    let q : Parameter = record { name = c.in_ok-name.name; is_var = p.is_var; data_type = p.data_type } in
    let rest = drop (l.parameter-index + 1) c.args.parameters.now in
    let next = next_left c.args.parameters.now l.parameter-index p c.loop-parameter-test.true c.parameter-item.is in
    record {
      same = λ types.
          ap (λ ps. map (parameter_of types) ps ++ map (parameter_of types) rest) c.in_ok-push.ensures.items
          ∙ sym (map-push (parameter_of types) l.copied.items q (map (parameter_of types) rest))
          ∙ ap (λ text. map (parameter_of types) l.copied.items ++ record { name = text; is_var = p.is_var; type = type_in types p.data_type } ∷ map (parameter_of types) rest) c.in_ok-name.ensures.cases
          ∙ ap (λ xs. map (parameter_of types) l.copied.items ++ map (parameter_of types) xs) (sym next)
          ∙ l.invariant.same types;
      known = λ n b.
          let h = l.invariant.known n b in
          let left = ap (known_parameters n) (sym next) ∙ h.1 in (
            ap (known_parameters n) c.in_ok-push.ensures.items ∙ parameter_pushed n l.copied.items q h.0 (and_left (is_below n p.data_type) (known_parameters n rest) left),
            and_right (is_below n p.data_type) (known_parameters n rest) left,
          );
    }
