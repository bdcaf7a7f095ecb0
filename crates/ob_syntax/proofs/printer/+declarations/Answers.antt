use Rattle.std.proofs.Common.{◌≡◌, ◌∷◌, [], ◌++◌, string_bytes, option_map, refl, sym, ◌∙◌, ap}
use Rattle.std.proofs.lemmas.Result.{on_ok_weaker}
use Rattle.ob_scan.specs.declared.token.Kind.{Kind}
use Rattle.ob_grammar.specs.declared.tree.Declarations.TheViews.{out-Declarations, out-Procedure}
use Rattle.ob_grammar.specs.View.{name_of, constants_of, types_of, variables_of, declarations_of, heading_of, procedures_in, stmts_in}
use Rattle.ob_syntax.specs.Printing.{spaced, ident, fixed, part_words, const_words, type_decl_words, var_decl_words, heading_words, body_words, declaration_words, procedure_words}
use Rattle.ob_grammar.proofs.Rows.{declarations_of-parts}
use Rattle.ob_syntax.proofs.PrintedLoops.{writes_all, writes_both, loop_writes, loop_wrote, procedure_first}
use Rattle.ob_syntax.proofs.printer.+declarations.Goals as goal

pub push_declarations-returns : goal.push_declarations-returns
push_declarations-returns t c =
    let d = out-Declarations c.args.declarations.now in
    let constants = part_words Kind.Const const_words (option_map constants_of d.constants) in
    let types = part_words Kind.«Type» type_decl_words (option_map types_of d.types) in
    let variables = part_words Kind.Var var_decl_words (option_map variables_of d.variables) in
    let procedures = procedure_words (procedures_in c.deref.result.now) in
    on_ok_weaker c.push_procedures.result
    (λ (last : string_bytes c.push_procedures.new.text ≡ string_bytes c.push_variables.new.text ++ spaced procedures).
    writes_both _ constants (types ++ (variables ++ procedures)) c.in_ok-push_constants.ensures
    (writes_both _ types (variables ++ procedures) c.in_ok-push_types.ensures (writes_both _ variables procedures c.in_ok-push_variables.ensures last))
    ∙ ap (λ ps. string_bytes c.args.text.now ++ spaced (constants ++ (types ++ (variables ++ procedure_words (procedures_in ps))))) c.deref.ensures.value
    ∙ ap (λ x. string_bytes c.args.text.now ++ spaced (declaration_words x)) (sym (declarations_of-parts c.args.declarations.now)))
    c.push_procedures.ensures

pub push_procedure-returns : goal.push_procedure-returns
push_procedure-returns t c =
    let p = out-Procedure c.args.procedure.now in
    let heading = heading_words (heading_of c.args.procedure.now) in
    let inner = declaration_words (declarations_of p.declarations) in
    let body = body_words (option_map (λ b. stmts_in b.items) p.body) in
    let end = fixed Kind.End ∷ ident (name_of p.end_name) ∷ fixed Kind.Semicolon ∷ [] in
    on_ok_weaker c.push_word-3.result
    (λ (last : string_bytes c.push_word-3.new.text ≡ string_bytes c.push_name.new.text ++ spaced (fixed Kind.Semicolon ∷ [])).
    writes_both _ heading (fixed Kind.Semicolon ∷ (inner ++ (body ++ end))) c.in_ok-push_heading.ensures
    (writes_both _ (fixed Kind.Semicolon ∷ []) (inner ++ (body ++ end)) c.in_ok-push_word.ensures
    (writes_both _ inner (body ++ end) c.in_ok-push_declarations.ensures
    (writes_both _ body end c.in_ok-push_body.ensures
    (writes_both _ (fixed Kind.End ∷ []) (ident (name_of p.end_name) ∷ fixed Kind.Semicolon ∷ []) c.in_ok-push_word-2.ensures
    (writes_both _ (ident (name_of p.end_name) ∷ []) (fixed Kind.Semicolon ∷ []) c.in_ok-push_name.ensures last))))))
    c.push_word-3.ensures

pub push_procedures-loop-procedure-init : goal.push_procedures-loop-procedure-init
push_procedures-loop-procedure-init t c = writes_all _ _

pub push_procedures-loop-procedure-preserved : goal.push_procedures-loop-procedure-preserved
push_procedures-loop-procedure-preserved t c =
    let x = c.procedure-item.result in
    loop_writes (λ ps. procedure_words (procedures_in ps)) (λ ps. procedure_words (procedures_in ps))
    (procedure_words (procedures_in (x ∷ []))) c.args.procedures.now c.loop-procedure.procedure-index x
    c.loop-procedure.invariant c.loop-procedure-test.true c.procedure-item.is (λ ys. procedure_first x ys) c.in_ok-push_procedure.ensures

pub push_procedures-returns : goal.push_procedures-returns
push_procedures-returns t c =
    loop_wrote (λ ps. procedure_words (procedures_in ps)) c.args.procedures.now c.loop-procedure.procedure-index c.loop-procedure.invariant refl c.loop-procedure-test.false
