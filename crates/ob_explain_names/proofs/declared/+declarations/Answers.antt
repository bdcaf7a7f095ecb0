use Rattle.std.proofs.Common.{◌≡◌, ◌∷◌, [], ◌++◌, nat_lt, false, map, option_map, refl, sym, ◌∙◌, ap, rules, tests}
use Rattle.std.proofs.lemmas.Result.{on_ok_weaker}
use Rattle.ob_grammar.specs.declared.tree.Declarations.TheViews.{out-Declarations, out-Procedure}
use Rattle.ob_grammar.specs.View.{constants_of, types_of, variables_of, declarations_of, heading_of, section_of, procedures_in}
use Rattle.ob_grammar.proofs.Rows.{declarations_of-parts}
use Rattle.ob_explain_names.specs.Known.{known_constants, known_types, known_variables, known_parameters, known_heading, known_in, known_procedures}
use Rattle.ob_explain_names.proofs.Added.{adds_all, adds_both, kept, loop_added, loop_adds, procedure_first}
use Rattle.ob_explain_names.proofs.declared.+declarations.Goals as goal

pub push_declarations-returns : goal.push_declarations-returns
push_declarations-returns t c =
    let d = out-Declarations c.args.declarations.now in
    let before = c.args.known.now.items in
    let constants = known_constants (option_map constants_of d.constants) in
    let types = known_types (option_map types_of d.types) in
    let variables = known_variables (option_map variables_of d.variables) in
    let procedures = known_procedures c.args.at (procedures_in c.deref.result.now) in
    on_ok_weaker c.push_procedures.result
    (λ (last : c.push_procedures.new.known.items ≡ c.push_variables.new.known.items ++ procedures).
    adds_both _ constants (types ++ (variables ++ procedures)) c.in_ok-push_constants.ensures
    (adds_both _ types (variables ++ procedures) c.in_ok-push_types.ensures (adds_both _ variables procedures c.in_ok-push_variables.ensures last))
    ∙ ap (λ ps. before ++ (constants ++ (types ++ (variables ++ known_procedures c.args.at (procedures_in ps))))) c.deref.ensures.value
    ∙ ap (λ x. before ++ known_in c.args.at x) (sym (declarations_of-parts c.args.declarations.now)))
    c.push_procedures.ensures

pub push_procedure-returns : goal.push_procedure-returns
push_procedure-returns t c =
    let p = out-Procedure c.args.procedure.now in
    let before = c.args.known.now.items in
    let heading = known_heading (heading_of c.args.procedure.now) in
    let parameters = known_parameters (option_map (λ ss. map section_of ss.items) p.parameters) in
    let inner = known_in c.args.at (declarations_of p.declarations) in
    let behind : nat_lt p.end_name.place c.args.at ≡ false = search (rules, tests) in
    on_ok_weaker c.push_declarations.result
    (λ (last : c.push_declarations.new.known.items ≡ c.push_parameters.new.known.items ++ inner).
    adds_both _ (heading ∷ []) (parameters ++ inner) c.in_ok-push_heading.ensures (adds_both _ parameters inner c.in_ok-push_parameters.ensures last)
    ∙ ap (λ names. before ++ (heading ∷ names)) (kept (nat_lt p.end_name.place c.args.at) (parameters ++ inner) behind))
    c.push_declarations.ensures

pub push_procedures-loop-procedure-init : goal.push_procedures-loop-procedure-init
push_procedures-loop-procedure-init t c = adds_all _ _

pub push_procedures-loop-procedure-preserved : goal.push_procedures-loop-procedure-preserved
push_procedures-loop-procedure-preserved t c =
    let x = c.procedure-item.result in
    loop_adds (λ ps. known_procedures c.args.at (procedures_in ps)) (known_procedures c.args.at (procedures_in (x ∷ [])))
    c.args.procedures.now c.loop-procedure.procedure-index x
    c.loop-procedure.invariant c.loop-procedure-test.true c.procedure-item.is (λ ys. procedure_first c.args.at x ys) c.in_ok-push_procedure.ensures

pub push_procedures-returns : goal.push_procedures-returns
push_procedures-returns t c =
    loop_added (λ ps. known_procedures c.args.at (procedures_in ps)) c.args.procedures.now c.loop-procedure.procedure-index c.loop-procedure.invariant refl c.loop-procedure-test.false
