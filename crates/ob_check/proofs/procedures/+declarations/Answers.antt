use Rattle.std.proofs.Common.{◌≡◌, ◌+◌, arith, [], ◌∷◌, ◌++◌, length, map, option_map, drop, refl, sym, ap, ◌∙◌}
use Rattle.std.proofs.lemmas.List.{length-map}
use Rattle.ob_grammar.proofs.Exits.{passed_on}
use Rattle.ob_grammar.specs.declared.tree.Procedure.{out-Procedure}
use Rattle.ob_grammar.specs.declared.tree.Declarations.TheViews.{out-Declarations}
use Rattle.ob_grammar.specs.View.{name_of, constants_of, types_of, variables_of, procedures_in, procedure_before, heading_of, inner_of, body_of}
use Rattle.ob_typing.specs.Declarations.{declared_by, with_procedure}
use Rattle.ob_typing.specs.Verdict.{Right}
use Rattle.ob_typing.specs.ModuleVerdicts.{constants, types, variables, procedures}
use Rattle.ob_checked.specs.declared.program.Procedure.{Procedure}
use Rattle.ob_checked.specs.View.{parameter_of, procedure_of}
use Rattle.ob_scopes.specs.Names.{types_in, env_of}
use Rattle.ob_rules.specs.Checking.{and_then}
use Rattle.ob_rules.specs.CheckingVariables.{room_of}
use Rattle.ob_rules.proofs.Steps.{fails_as, fails_on, goes_on}
use Rattle.ob_scopes.proofs.Kept.{parameters_more, extends_further}
use Rattle.ob_scopes.proofs.Lists.{next_left}
use Rattle.ob_rules.proofs.DeclarationSteps.{variables_more, variables_kept}
use Rattle.ob_check.specs.CheckingProcedures.{around, known_procedures, behind_procedures, behind_heading}
use Rattle.ob_check.proofs.Around.{declarations_right}
use Rattle.ob_check.proofs.ProcedureSteps.{in_declared_parts, parts_before, heading_right, procedure_step, known_with, procedures_more, procedures_joined}
use Rattle.ob_check.proofs.procedures.+declarations.Goals as goal

pub behind-returns-clause-around : goal.behind-returns-clause-around
behind-returns-clause-around t c =
    declarations_right (inner_of c.args.tree.now) (env_of c.args.scopes.now) c.in_ok-next.next (record { names = c.args.count; taken = c.args.count; limit = 1024 }) _ c.in_ok-declared.ensures.typed

pub declarations-returns-in_err-procedures-clause-fault : goal.declarations-returns-in_err-procedures-clause-fault
declarations-returns-in_err-procedures-clause-fault t c =
    let env = env_of c.args.scopes.now in
    let d = out-Declarations c.args.tree.now in
    let env1 = env_of c.declare_constants.new.scopes in
    let env2 = env_of c.declare_types.new.scopes in
    let env3 = env_of c.declare_variables.new.scopes in
    passed_on _ _ _ c.from_residual-in_err-procedures.ensures.1
    (fails_as _ _ _
    (in_declared_parts env c.args.number (room_of c.args.room) c.args.tree.now
    ∙ parts_before env c.args.number (room_of c.args.room) c.args.tree.now (declared_by (option_map constants_of d.constants)) (declared_by (option_map types_of d.types))
    (declared_by (option_map variables_of d.variables)) (procedures_in d.procedures.items) env1 env2 _
    (ap (λ xs. constants xs env) (sym c.constants_in.ensures) ∙ c.in_ok-declare_constants.ensures.ok)
    (ap (λ xs. types xs env1) (sym c.types_in.ensures) ∙ c.in_ok-declare_types.ensures.ok)
    (ap (λ xs. variables xs env2 (room_of c.args.room)) (sym c.variables_in.ensures) ∙ c.in_ok-variables.ensures.typed))
    (fails_on _ _ _ (fails_as _ _ _ (ap (λ xs. procedures (procedures_in xs) env3 c.args.number 0) (sym c.deref.ensures.value)) c.in_err-procedures.ensures.fault)))

pub declarations-returns-clause-typed : goal.declarations-returns-clause-typed
declarations-returns-clause-typed t c =
    let env = env_of c.args.scopes.now in
    let d = out-Declarations c.args.tree.now in
    let env1 = env_of c.declare_constants.new.scopes in
    let env2 = env_of c.declare_types.new.scopes in
    let env3 = env_of c.declare_variables.new.scopes in
    let us = c.in_ok-variables.variables.items in
    in_declared_parts env c.args.number (room_of c.args.room) c.args.tree.now
    ∙ parts_before env c.args.number (room_of c.args.room) c.args.tree.now (declared_by (option_map constants_of d.constants)) (declared_by (option_map types_of d.types))
    (declared_by (option_map variables_of d.variables)) (procedures_in d.procedures.items) env1 env2 _
    (ap (λ xs. constants xs env) (sym c.constants_in.ensures) ∙ c.in_ok-declare_constants.ensures.ok)
    (ap (λ xs. types xs env1) (sym c.types_in.ensures) ∙ c.in_ok-declare_types.ensures.ok)
    (ap (λ xs. variables xs env2 (room_of c.args.room)) (sym c.variables_in.ensures) ∙ c.in_ok-variables.ensures.typed)
    ∙ goes_on _ _ _ _ (ap (λ xs. procedures (procedures_in xs) env3 c.args.number 0) (sym c.deref.ensures.value) ∙ c.in_ok-procedures.ensures.typed)
    (ap (λ vs. Right (record { env = env_of c.declare_procedures.new.scopes; variables = vs; procedures = map (procedure_of (types_in c.declare_procedures.new.scopes)) c.in_ok-procedures.procedures.items }))
    (sym (variables_kept (types_in c.declare_variables.new.scopes) (types_in c.declare_procedures.new.scopes) c.in_ok-procedures.ensures.extends us c.in_ok-variables.ensures.known)))

pub declarations-returns-clause-variables : goal.declarations-returns-clause-variables
declarations-returns-clause-variables t c =
    variables_more (length (types_in c.declare_variables.new.scopes)) (length (types_in c.declare_procedures.new.scopes)) c.in_ok-procedures.ensures.extends.longer
    c.in_ok-variables.variables.items c.in_ok-variables.ensures.known

pub declare_procedure-returns-in_err-inner-clause-fault : goal.declare_procedure-returns-in_err-inner-clause-fault
declare_procedure-returns-in_err-inner-clause-fault t c =
    let tree = c.args.tree.now in
    let env = env_of c.args.scopes.now in
    let n = c.in_ok-number.number in
    let mid = types_in c.declare_heading.new.scopes in
    let ps = c.in_ok-parameters.parameters.items in
    let number : n ≡ c.args.first + length c.args.procedures.now.items = omega (arith, c.in_ok-number.ensures.sum, c.len.ensures) in
    let count : c.len-2.result ≡ length (map (parameter_of mid) ps) = omega (arith, c.len-2.ensures, length-map ps (parameter_of mid)) in
    passed_on _ _ _ c.from_residual-in_err-inner.ensures.1
    (λ rest.
    fails_as _ _ _
    (ap (λ k. procedures (procedure_before tree rest) env k c.args.exported) (sym number)
    ∙ heading_right env n c.args.exported (heading_of tree) (inner_of tree) (body_of tree) (name_of (out-Procedure tree).end_name) rest c.in_ok-exports.ensures.unbroken _ c.in_ok-parameters.ensures.typed)
    (fails_on _ _ _ (fails_as _ _ _ (ap (λ k. behind_heading (env_of c.declare_heading.new.scopes) n k (inner_of tree) (body_of tree)) (sym count)) c.in_err-inner.ensures.fault)))

pub declare_procedure-returns-clause-typed : goal.declare_procedure-returns-clause-typed
declare_procedure-returns-clause-typed t c =
    let tree = c.args.tree.now in
    let env = env_of c.args.scopes.now in
    let n = c.in_ok-number.number in
    let old = types_in c.args.scopes.now in
    let mid = types_in c.declare_heading.new.scopes in
    let new = types_in c.behind.new.scopes in
    let vs = c.args.procedures.now.items in
    let qs = c.append.new.self.items in
    let within = c.in_ok-inner.inner.procedures.items in
    let inside = env_of c.declare_heading.new.scopes in
    let after = env_of c.leave-own.new.self in
    let p : Procedure = record { name = c.in_ok-name.name; is_exported = (out-Procedure tree).is_exported; parameters = c.in_ok-parameters.parameters; variables = c.in_ok-inner.inner.variables; body = c.in_ok-inner.inner.body } in
    let number : n ≡ c.args.first + length vs = omega (arith, c.in_ok-number.ensures.sum, c.len.ensures) in
    let count : c.len-2.result ≡ length c.in_ok-parameters.parameters.items = omega (arith, c.len-2.ensures) in
    let is : after ≡ with_procedure env n (heading_of tree) (map (parameter_of mid) c.in_ok-parameters.parameters.items) =
    sym (ap around c.leave-own.ensures.scope) ∙ c.in_ok-inner.ensures.around ∙ c.in_ok-parameters.ensures.around in
    λ rest.
    ap (λ k. and_then (procedures (procedure_before tree rest) env k c.args.exported) (behind_procedures old vs)) (sym number)
    ∙ procedure_step env n c.args.exported (heading_of tree) (inner_of tree) (body_of tree) (name_of (out-Procedure tree).end_name) rest old mid new
    (extends_further old mid new c.in_ok-parameters.ensures.extends c.in_ok-inner.ensures.extends) c.in_ok-inner.ensures.extends p within vs qs inside (env_of c.behind.new.scopes) after
    c.in_ok-exports.ensures.unbroken c.in_ok-parameters.ensures.typed
    (ap (λ k. behind_heading inside n k (inner_of tree) (body_of tree)) (sym count) ∙ c.in_ok-inner.ensures.typed)
    c.in_ok-name.ensures.cases refl c.in_ok-parameters.ensures.known c.requires.known is c.args.first c.in_ok-exports.exports c.in_ok-exports.ensures.exports
    (c.in_ok-append.ensures.items ∙ ap (λ xs. xs ++ within) c.in_ok-push.ensures.items) number
    ∙ ap (λ es. and_then (procedures rest after (c.args.first + length qs) c.in_ok-exports.exports) (behind_procedures es qs)) (sym c.leave-own.ensures.types)

pub declare_procedure-returns-clause-known : goal.declare_procedure-returns-clause-known
declare_procedure-returns-clause-known t c =
    let old = types_in c.args.scopes.now in
    let mid = types_in c.declare_heading.new.scopes in
    let new = types_in c.behind.new.scopes in
    let m = length new in
    let vs = c.args.procedures.now.items in
    let within = c.in_ok-inner.inner.procedures.items in
    let all = extends_further old mid new c.in_ok-parameters.ensures.extends c.in_ok-inner.ensures.extends in
    let p : Procedure = record { name = c.in_ok-name.name; is_exported = (out-Procedure c.args.tree.now).is_exported; parameters = c.in_ok-parameters.parameters; variables = c.in_ok-inner.inner.variables; body = c.in_ok-inner.inner.body } in
    ap (λ es. known_procedures (length es) c.append.new.self.items) c.leave-own.ensures.types
    ∙ ap (known_procedures m) (c.in_ok-append.ensures.items ∙ ap (λ xs. xs ++ within) c.in_ok-push.ensures.items)
    ∙ procedures_joined m (vs ++ p ∷ []) within
    (procedures_joined m vs (p ∷ []) (procedures_more (length old) m all.longer vs c.requires.known)
    (known_with m p [] (parameters_more (length mid) m c.in_ok-inner.ensures.extends.longer c.in_ok-parameters.parameters.items c.in_ok-parameters.ensures.known)
    c.in_ok-inner.ensures.variables refl))
    c.in_ok-inner.ensures.procedures

pub declare_procedures-returns-in_err-exported-clause-fault :
    goal.declare_procedures-returns-in_err-exported-clause-fault
declare_procedures-returns-in_err-exported-clause-fault t c =
    let l = c.loop-tree in
    let next = next_left c.args.trees.now l.tree-index c.tree-item.result c.loop-tree-test.true c.tree-item.is in
    let behind = behind_procedures (types_in l.scopes) l.procedures.items in
    passed_on _ _ _ c.from_residual.ensures.1
    (fails_as _ _ _
    (l.invariant.left ∙ ap (λ xs. and_then (procedures (procedures_in xs) (env_of l.scopes) (c.args.first + length l.procedures.items) l.exported) behind) next)
    (fails_on _ _ _ (c.in_err-exported.ensures.fault (procedures_in (drop (l.tree-index + 1) c.args.trees.now)))))
