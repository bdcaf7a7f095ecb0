use Rattle.std.proofs.Common.{◌≡◌, ◌∷◌, [], ◌++◌, string_bytes, sym, ◌∙◌, ap}
use Rattle.std.proofs.lemmas.List.{append-nil}
use Rattle.std.proofs.lemmas.Result.{on_ok_weaker}
use Rattle.ob_scan.specs.declared.token.Kind.{Kind}
use Rattle.ob_grammar.specs.Tree
use Rattle.ob_grammar.specs.View.{expr_of, stmt_of, stmts_in, branches_in}
use Rattle.ob_grammar.specs.View.{otherwise_of}
use Rattle.ob_syntax.specs.Printing.{spaced, fixed, expr_words, stmt_words, stmts_words, branch_words, else_words}
use Rattle.ob_grammar.proofs.Rows.{stmt_of-if, stmt_of-while, stmt_of-repeat}
use Rattle.ob_syntax.proofs.PrintedLoops.{writes_both}
use Rattle.ob_syntax.proofs.printer.statements.+statements.Goals as goal
use Rattle.ob_syntax.proofs.printer.statements.+statements.Goals.{push_statement-in-Some+in_ok-push_word-in-If-2+in_ok-push_statements-in-If, push_statement-in_default}

pub push_statement-returns-after-otherwise : goal.push_statement-returns-after-otherwise
push_statement-returns-after-otherwise t c =
    let place = c.in-If.place in
    let branches = c.deref-in-If.result.now in
    let otherwise = c.in-If.otherwise in
    let before = string_bytes c.push_branches.new.text in
    let e : stmt_of c.args.statement.now ≡ Tree.If place (branches_in branches) (otherwise_of otherwise) =
    ap stmt_of c.in-If.is ∙ stmt_of-if place c.in-If.branches otherwise ∙ ap (λ bs. Tree.If place (branches_in bs) (otherwise_of otherwise)) (sym c.deref-in-If.ensures.value) in
    let h : string_bytes c.match-otherwise.text ≡ before ++ spaced (else_words (otherwise_of otherwise)) =
    elim c.match-otherwise.branch [
      | push_statement-in-Some+in_ok-push_word-in-If-2+in_ok-push_statements-in-If w ↦
          ap string_bytes w.text-is
          ∙ writes_both before (fixed Kind.Else ∷ []) (stmts_words (stmts_in w.deref-in-Some.result.now)) w.in_ok-push_word-in-If-2.ensures w.in_ok-push_statements-in-If.ensures
          ∙ ap (λ ss. before ++ spaced (fixed Kind.Else ∷ stmts_words (stmts_in ss))) w.deref-in-Some.ensures.value
          ∙ ap (λ o. before ++ spaced (else_words (otherwise_of o))) (sym w.in-Some.is)
      | push_statement-in_default w ↦
          ap string_bytes w.text-is ∙ sym (append-nil before) ∙ ap (λ o. before ++ spaced (else_words (otherwise_of o))) (sym w.in_default.is)
    ] in
    on_ok_weaker c.push_word-in-If-2.result
    (λ (last : string_bytes c.push_word-in-If-2.new.text ≡ string_bytes c.match-otherwise.text ++ spaced (fixed Kind.End ∷ [])).
    writes_both _ (fixed Kind.If ∷ []) (branch_words (branches_in branches) ++ (else_words (otherwise_of otherwise) ++ fixed Kind.End ∷ [])) c.in_ok-push_word-in-If.ensures
    (writes_both _ (branch_words (branches_in branches)) (else_words (otherwise_of otherwise) ++ fixed Kind.End ∷ []) c.in_ok-push_branches-in-If.ensures
    (writes_both _ (else_words (otherwise_of otherwise)) (fixed Kind.End ∷ []) h last))
    ∙ ap (λ s. string_bytes c.args.text.now ++ spaced (stmt_words s)) (sym e))
    c.push_word-in-If-2.ensures

pub push_statement-returns-in_ok-push_statements-in-While :
    goal.push_statement-returns-in_ok-push_statements-in-While
push_statement-returns-in_ok-push_statements-in-While t c =
    let place = c.in-While.place in
    let condition = c.in-While.condition in
    let body = c.deref-in-While.result.now in
    let behind = stmts_words (stmts_in body) ++ fixed Kind.End ∷ [] in
    let e : stmt_of c.args.statement.now ≡ Tree.While place (expr_of condition) (stmts_in body) =
    ap stmt_of c.in-While.is ∙ stmt_of-while place condition c.in-While.body ∙ ap (λ ss. Tree.While place (expr_of condition) (stmts_in ss)) (sym c.deref-in-While.ensures.value) in
    on_ok_weaker c.push_word-in-While-3.result
    (λ (last : string_bytes c.push_word-in-While-3.new.text ≡ string_bytes c.push_statements-in-While.new.text ++ spaced (fixed Kind.End ∷ [])).
    writes_both _ (fixed Kind.While ∷ []) (expr_words (expr_of condition) ++ fixed Kind.Do ∷ behind) c.in_ok-push_word-in-While.ensures
    (writes_both _ (expr_words (expr_of condition)) (fixed Kind.Do ∷ behind) c.in_ok-push_expr-in-While.ensures
    (writes_both _ (fixed Kind.Do ∷ []) behind c.in_ok-push_word-in-While-2.ensures
    (writes_both _ (stmts_words (stmts_in body)) (fixed Kind.End ∷ []) c.in_ok-push_statements-in-While.ensures last)))
    ∙ ap (λ s. string_bytes c.args.text.now ++ spaced (stmt_words s)) (sym e))
    c.push_word-in-While-3.ensures

pub push_statement-returns-in_ok-push_word-in-Repeat-2 : goal.push_statement-returns-in_ok-push_word-in-Repeat-2
push_statement-returns-in_ok-push_word-in-Repeat-2 t c =
    let place = c.in-Repeat.place in
    let condition = c.in-Repeat.condition in
    let body = c.deref-in-Repeat.result.now in
    let behind = fixed Kind.Until ∷ expr_words (expr_of condition) in
    let e : stmt_of c.args.statement.now ≡ Tree.Repeat place (stmts_in body) (expr_of condition) =
    ap stmt_of c.in-Repeat.is ∙ stmt_of-repeat place c.in-Repeat.body condition ∙ ap (λ ss. Tree.Repeat place (stmts_in ss) (expr_of condition)) (sym c.deref-in-Repeat.ensures.value) in
    on_ok_weaker c.push_expr-in-Repeat.result
    (λ (last : string_bytes c.push_expr-in-Repeat.new.text ≡ string_bytes c.push_word-in-Repeat-2.new.text ++ spaced (expr_words (expr_of condition))).
    writes_both _ (fixed Kind.Repeat ∷ []) (stmts_words (stmts_in body) ++ behind) c.in_ok-push_word-in-Repeat.ensures
    (writes_both _ (stmts_words (stmts_in body)) behind c.in_ok-push_statements-in-Repeat.ensures
    (writes_both _ (fixed Kind.Until ∷ []) (expr_words (expr_of condition)) c.in_ok-push_word-in-Repeat-2.ensures last))
    ∙ ap (λ s. string_bytes c.args.text.now ++ spaced (stmt_words s)) (sym e))
    c.push_expr-in-Repeat.ensures
