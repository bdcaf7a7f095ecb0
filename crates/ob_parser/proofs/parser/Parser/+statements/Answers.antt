use Rattle.std.proofs.Common.{◌≡◌, ◌+◌, ◌<◌, ◌≤◌, [], ◌∷◌, ◌++◌, refl, sym, ◌∙◌, ap, arith, length}
use Rattle.ob_scan.specs.declared.token.Kind.{Kind}
use Rattle.ob_parser.specs.Forms as forms
use Rattle.ob_parser.specs.Forms.{token, both}
use Rattle.ob_parser.proofs.Steps.{fill_token, fill_both, closed, before, before_last}
use Rattle.ob_parser.proofs.States.{token_there, at_here, away, starts, no_way, reaches, fails, past, fails_in, passed, passed_part, path_on, path_as, stays, went_as, false_at, true_at}
use Rattle.ob_parser.proofs.Openings.{went_opens, fails_deep}
use Rattle.ob_parser.proofs.Firsts.{fill_expression}
use Rattle.ob_parser.proofs.Statements.{fill_statement, fill_more_statements, fill_statements, fill_more_branches, fill_branches, fill_otherwise, leads_if, leads_while, leads_repeat, reads_empty, leads_statements, statement_follows, leads_more_statements, reads_no_statements, leads_branch, leads_branches, branch_follows, leads_elsif, reads_no_elsif, leads_else, reads_no_else, branches_follow}
use Rattle.ob_parser.proofs.StatementLoops.{stmts_before, stmts_before-push, stmts_before-end, branches_before, branches_before-push, branches_before-end}
use Rattle.ob_grammar.proofs.Rows.{stmt_of-while, stmt_of-if, stmt_of-repeat}
use Rattle.ob_parser.proofs.parser.Parser.+statements.Goals as goal

pub statement-returns-else-at-4 : goal.statement-returns-else-at-4
statement-returns-else-at-4 g t c =
    stays (λ _ _ w. reads_empty (away w (false_at c.if-at-4.ensures.kind)) (away w (false_at c.if-at.ensures.kind)) (away w (false_at c.if-at-2.ensures.kind)) (away w (false_at c.if-at-3.ensures.kind)))

-- StatementSequence

pub statements-returns-in_err-first : goal.statements-returns-in_err-first
statements-returns-in_err-first g t c =
    passed _ _ _ _ _ _ c.from_residual.ensures.1 (fails_in (starts (λ _ _ w. leads_statements)) statement_follows fill_more_statements _ _ c.in_err-first.ensures)

pub statements-loop-self-init : goal.statements-loop-self-init
statements-loop-self-init g t c =
    path_as (λ ss. ap (λ all. stmts_before all ss) (sym (c.in_ok-push.ensures.items ∙ ap (λ all. all ++ c.in_ok-first.first ∷ []) c.new-all.ensures.items)))
    (past (starts (λ _ _ w. leads_statements)) statement_follows c.in_ok-first.ensures)

pub statements-returns-in_err-next : goal.statements-returns-in_err-next
statements-returns-in_err-next g t c =
    let here = true_at c.loop-self-test.ensures.kind in
    let way = past (path_on c.loop-self.invariant (starts (λ _ _ w. leads_more_statements (at_here w here)))) (closed (λ k. refl)) (c.take.ensures.took _ here) in
    passed _ _ _ _ _ _ c.from_residual-in_err-next.ensures.1
    (fails_in (path_on way (starts (λ _ _ w. leads_statements))) statement_follows fill_more_statements _ _ c.in_err-next.ensures)

pub statements-loop-self-preserved : goal.statements-loop-self-preserved
statements-loop-self-preserved g t c =
    let here = true_at c.loop-self-test.ensures.kind in
    let way = past (path_on c.loop-self.invariant (starts (λ _ _ w. leads_more_statements (at_here w here)))) (closed (λ k. refl)) (c.take.ensures.took _ here) in
    let way = past (path_on way (starts (λ _ _ w. leads_statements))) statement_follows c.in_ok-next.ensures in
    path_as (λ ss. stmts_before-push c.loop-self.all.items c.in_ok-next.next ss ∙ ap (λ all. stmts_before all ss) (sym c.in_ok-push-2.ensures.items)) way

pub statements-returns : goal.statements-returns
statements-returns g t c =
    let end = reaches c.loop-self.invariant (stays (λ _ _ w. reads_no_statements (away w (false_at c.loop-self-test.ensures.kind)))) in
    went_as (stmts_before-end c.loop-self.all.items) end

-- expression "THEN" StatementSequence

pub branch-returns-in_err-condition : goal.branch-returns-in_err-condition
branch-returns-in_err-condition g t c =
    passed _ _ _ _ _ _ c.from_residual.ensures.1
    (fails_in (starts (λ _ _ w. leads_branch)) (before (forms.statements c.args.depth) refl) (fill_both fill_token fill_statements) _ _ c.in_err-condition.ensures)

pub branch-returns-in_err-expect : goal.branch-returns-in_err-expect
branch-returns-in_err-expect g t c =
    let way = past (starts (λ _ _ w. leads_branch)) (before (forms.statements c.args.depth) refl) c.in_ok-condition.ensures in
    passed _ _ _ _ _ _ c.from_residual-in_err-expect.ensures.1 (fails_in way (closed (λ k. refl)) fill_statements _ _ c.in_err-expect.ensures.answers)

pub branch-returns-in_err-body : goal.branch-returns-in_err-body
branch-returns-in_err-body g t c =
    let way = past (starts (λ _ _ w. leads_branch)) (before (forms.statements c.args.depth) refl) c.in_ok-condition.ensures in
    let way = past way (closed (λ k. refl)) c.in_ok-expect.ensures.answers in
    passed _ _ _ _ _ _ c.from_residual-in_err-body.ensures.1 (fails way _ _ c.in_err-body.ensures)

pub branch-returns : goal.branch-returns
branch-returns g t c =
    let way = past (starts (λ _ _ w. leads_branch)) (before (forms.statements c.args.depth) refl) c.in_ok-condition.ensures in
    let way = past way (closed (λ k. refl)) c.in_ok-expect.ensures.answers in
    reaches way c.in_ok-body.ensures

-- a branch with each ELSIF behind it

pub branches-returns-in_err-first : goal.branches-returns-in_err-first
branches-returns-in_err-first g t c =
    passed _ _ _ _ _ _ c.from_residual.ensures.1 (fails_in (starts (λ _ _ w. leads_branches)) branch_follows fill_more_branches _ _ c.in_err-first.ensures)

pub branches-loop-self-init : goal.branches-loop-self-init
branches-loop-self-init g t c =
    path_as (λ bs. ap (λ all. branches_before all bs) (sym (c.in_ok-push.ensures.items ∙ ap (λ all. all ++ c.in_ok-first.first ∷ []) c.new-all.ensures.items)))
    (past (starts (λ _ _ w. leads_branches)) branch_follows c.in_ok-first.ensures)

pub branches-returns-in_err-next : goal.branches-returns-in_err-next
branches-returns-in_err-next g t c =
    let here = true_at c.loop-self-test.ensures.kind in
    let way = past (path_on c.loop-self.invariant (starts (λ _ _ w. leads_elsif (at_here w here)))) (closed (λ k. refl)) (c.take.ensures.took _ here) in
    passed _ _ _ _ _ _ c.from_residual-in_err-next.ensures.1
    (fails_in (path_on way (starts (λ _ _ w. leads_branches))) branch_follows fill_more_branches _ _ c.in_err-next.ensures)

pub branches-loop-self-preserved : goal.branches-loop-self-preserved
branches-loop-self-preserved g t c =
    let here = true_at c.loop-self-test.ensures.kind in
    let way = past (path_on c.loop-self.invariant (starts (λ _ _ w. leads_elsif (at_here w here)))) (closed (λ k. refl)) (c.take.ensures.took _ here) in
    let way = past (path_on way (starts (λ _ _ w. leads_branches))) branch_follows c.in_ok-next.ensures in
    path_as (λ bs. branches_before-push c.loop-self.all.items c.in_ok-next.next bs ∙ ap (λ all. branches_before all bs) (sym c.in_ok-push-2.ensures.items)) way

pub branches-returns : goal.branches-returns
branches-returns g t c =
    let end = reaches c.loop-self.invariant (stays (λ _ _ w. reads_no_elsif (away w (false_at c.loop-self-test.ensures.kind)))) in
    went_as (branches_before-end c.loop-self.all.items) end

-- ["ELSE" StatementSequence]

pub otherwise-returns-then-not-at : goal.otherwise-returns-then-not-at
otherwise-returns-then-not-at g t c = stays (λ _ _ w. reads_no_else (away w (false_at c.if-not-at.ensures.kind)))

pub otherwise-returns-in_err-statements : goal.otherwise-returns-in_err-statements
otherwise-returns-in_err-statements g t c =
    let here = true_at c.if-not-at.ensures.kind in
    let way = past (starts (λ _ _ w. leads_else (at_here w here))) (closed (λ k. refl)) (c.take.ensures.took _ here) in
    passed _ _ _ _ _ _ c.from_residual.ensures.1 (fails way _ _ c.in_err-statements.ensures)

pub otherwise-returns : goal.otherwise-returns
otherwise-returns g t c =
    let here = true_at c.if-not-at.ensures.kind in
    let way = past (starts (λ _ _ w. leads_else (at_here w here))) (closed (λ k. refl)) (c.take.ensures.took _ here) in
    reaches way c.in_ok-statements.ensures

-- IfStatement

pub if_statement-returns-then-depth-ge-DEEPEST_NESTING : goal.if_statement-returns-then-depth-ge-DEEPEST_NESTING
if_statement-returns-then-depth-ge-DEEPEST_NESTING g t c =
    fails_deep (g.S.TokenSource.state c.args.self.now.source) c.too_deep.ensures (λ _ _ w. leads_if (at_here w c.requires)) fill_statement
    (fill_both fill_branches (fill_both fill_otherwise fill_token)) (omega arith) c.requires

pub if_statement-take-place-requires : goal.if_statement-take-place-requires
if_statement-take-place-requires g t c = token_there (g.S.TokenSource.state c.args.self.now.source) c.requires

pub if_statement-returns-in_err-branches : goal.if_statement-returns-in_err-branches
if_statement-returns-in_err-branches g t c =
    let way = past (starts (λ _ _ w. leads_if (at_here w c.requires))) (closed (λ k. refl)) (went_opens (omega arith) (c.take-place.ensures.took _ c.requires)) in
    passed _ _ _ _ _ _ c.from_residual.ensures.1 (fails_in way branches_follow (fill_both fill_otherwise fill_token) _ _ c.in_err-branches.ensures)

pub if_statement-returns-in_err-otherwise : goal.if_statement-returns-in_err-otherwise
if_statement-returns-in_err-otherwise g t c =
    let way = past (starts (λ _ _ w. leads_if (at_here w c.requires))) (closed (λ k. refl)) (went_opens (omega arith) (c.take-place.ensures.took _ c.requires)) in
    let way = past way branches_follow c.in_ok-branches.ensures in
    passed _ _ _ _ _ _ c.from_residual-in_err-otherwise.ensures.1 (fails_in way (before_last refl) fill_token _ _ c.in_err-otherwise.ensures)

pub if_statement-returns-in_err-expect : goal.if_statement-returns-in_err-expect
if_statement-returns-in_err-expect g t c =
    let way = past (starts (λ _ _ w. leads_if (at_here w c.requires))) (closed (λ k. refl)) (went_opens (omega arith) (c.take-place.ensures.took _ c.requires)) in
    let way = past (past way branches_follow c.in_ok-branches.ensures) (before_last refl) c.in_ok-otherwise.ensures in
    passed _ _ _ _ _ _ c.from_residual-in_err-expect.ensures.1 (fails way _ _ c.in_err-expect.ensures.answers)

pub if_statement-returns : goal.if_statement-returns
if_statement-returns g t c =
    let way = past (starts (λ _ _ w. leads_if (at_here w c.requires))) (closed (λ k. refl)) (went_opens (omega arith) (c.take-place.ensures.took _ c.requires)) in
    let way = past (past way branches_follow c.in_ok-branches.ensures) (before_last refl) c.in_ok-otherwise.ensures in
    went_as (sym (stmt_of-if c.take-place.result c.in_ok-branches.branches c.in_ok-otherwise.otherwise))
    (reaches way c.in_ok-expect.ensures.answers)

-- WhileStatement

pub while_statement-returns-then-depth-ge-DEEPEST_NESTING : goal.while_statement-returns-then-depth-ge-DEEPEST_NESTING
while_statement-returns-then-depth-ge-DEEPEST_NESTING g t c =
    fails_deep (g.S.TokenSource.state c.args.self.now.source) c.too_deep.ensures (λ _ _ w. leads_while (at_here w c.requires)) fill_statement
    (fill_both fill_expression (fill_both fill_token (fill_both fill_statements fill_token))) (omega arith) c.requires

pub while_statement-take-place-requires : goal.while_statement-take-place-requires
while_statement-take-place-requires g t c = token_there (g.S.TokenSource.state c.args.self.now.source) c.requires

pub while_statement-returns-in_err-condition : goal.while_statement-returns-in_err-condition
while_statement-returns-in_err-condition g t c =
    let way = past (starts (λ _ _ w. leads_while (at_here w c.requires))) (closed (λ k. refl)) (went_opens (omega arith) (c.take-place.ensures.took _ c.requires)) in
    passed _ _ _ _ _ _ c.from_residual.ensures.1
    (fails_in way (before (both (forms.statements (c.args.depth + 1)) (token Kind.End)) refl) (fill_both fill_token (fill_both fill_statements fill_token)) _ _ c.in_err-condition.ensures)

pub while_statement-returns-in_err-body : goal.while_statement-returns-in_err-body
while_statement-returns-in_err-body g t c =
    let way = past (starts (λ _ _ w. leads_while (at_here w c.requires))) (closed (λ k. refl)) (went_opens (omega arith) (c.take-place.ensures.took _ c.requires)) in
    let way = past way (before (both (forms.statements (c.args.depth + 1)) (token Kind.End)) refl) c.in_ok-condition.ensures in
    passed _ _ _ _ _ _ c.from_residual-in_err-body.ensures.1 (fails way _ _ c.in_err-body.ensures)

pub while_statement-returns : goal.while_statement-returns
while_statement-returns g t c =
    let way = past (starts (λ _ _ w. leads_while (at_here w c.requires))) (closed (λ k. refl)) (went_opens (omega arith) (c.take-place.ensures.took _ c.requires)) in
    let way = past way (before (both (forms.statements (c.args.depth + 1)) (token Kind.End)) refl) c.in_ok-condition.ensures in
    went_as (sym (stmt_of-while c.take-place.result c.in_ok-condition.condition c.in_ok-body.body)) (reaches way c.in_ok-body.ensures.1)

-- RepeatStatement

pub repeat_statement-returns-then-depth-ge-DEEPEST_NESTING : goal.repeat_statement-returns-then-depth-ge-DEEPEST_NESTING
repeat_statement-returns-then-depth-ge-DEEPEST_NESTING g t c =
    fails_deep (g.S.TokenSource.state c.args.self.now.source) c.too_deep.ensures (λ _ _ w. leads_repeat (at_here w c.requires)) fill_statement
    (fill_both fill_statements (fill_both fill_token fill_expression)) (omega arith) c.requires

pub repeat_statement-take-place-requires : goal.repeat_statement-take-place-requires
repeat_statement-take-place-requires g t c = token_there (g.S.TokenSource.state c.args.self.now.source) c.requires

pub repeat_statement-returns-in_err-body : goal.repeat_statement-returns-in_err-body
repeat_statement-returns-in_err-body g t c =
    let way = past (starts (λ _ _ w. leads_repeat (at_here w c.requires))) (closed (λ k. refl)) (went_opens (omega arith) (c.take-place.ensures.took _ c.requires)) in
    passed _ _ _ _ _ _ c.from_residual.ensures.1
    (fails_in way (before (forms.expression (c.args.depth + 1)) refl) (fill_both fill_token fill_expression) _ _ c.in_err-body.ensures)

pub repeat_statement-returns-in_err-expect : goal.repeat_statement-returns-in_err-expect
repeat_statement-returns-in_err-expect g t c =
    let way = past (starts (λ _ _ w. leads_repeat (at_here w c.requires))) (closed (λ k. refl)) (went_opens (omega arith) (c.take-place.ensures.took _ c.requires)) in
    let way = past way (before (forms.expression (c.args.depth + 1)) refl) c.in_ok-body.ensures in
    passed _ _ _ _ _ _ c.from_residual-in_err-expect.ensures.1 (fails_in way (closed (λ k. refl)) fill_expression _ _ c.in_err-expect.ensures.answers)

pub repeat_statement-returns-in_err-condition : goal.repeat_statement-returns-in_err-condition
repeat_statement-returns-in_err-condition g t c =
    let way = past (starts (λ _ _ w. leads_repeat (at_here w c.requires))) (closed (λ k. refl)) (went_opens (omega arith) (c.take-place.ensures.took _ c.requires)) in
    let way = past way (before (forms.expression (c.args.depth + 1)) refl) c.in_ok-body.ensures in
    let way = past way (closed (λ k. refl)) c.in_ok-expect.ensures.answers in
    passed _ _ _ _ _ _ c.from_residual-in_err-condition.ensures.1 (fails way _ _ c.in_err-condition.ensures)

pub repeat_statement-returns : goal.repeat_statement-returns
repeat_statement-returns g t c =
    let way = past (starts (λ _ _ w. leads_repeat (at_here w c.requires))) (closed (λ k. refl)) (went_opens (omega arith) (c.take-place.ensures.took _ c.requires)) in
    let way = past way (before (forms.expression (c.args.depth + 1)) refl) c.in_ok-body.ensures in
    let way = past way (closed (λ k. refl)) c.in_ok-expect.ensures.answers in
    went_as (sym (stmt_of-repeat c.take-place.result c.in_ok-body.body c.in_ok-condition.condition)) (reaches way c.in_ok-condition.ensures)

-- "DO" StatementSequence "END"

pub repeated-returns-in_err-expect : goal.repeated-returns-in_err-expect
repeated-returns-in_err-expect g t c =
    passed_part _ _ _ _ _ _ c.from_residual.ensures.1
    (fails_in (no_way (g.S.TokenSource.state c.args.self.now.source)) (closed (λ k. refl)) (fill_both fill_statements fill_token) _ _ c.in_err-expect.ensures.answers)

pub repeated-returns-in_err-body : goal.repeated-returns-in_err-body
repeated-returns-in_err-body g t c =
    let way = past (no_way (g.S.TokenSource.state c.args.self.now.source)) (closed (λ k. refl)) c.in_ok-expect.ensures.answers in
    passed_part _ _ _ _ _ _ c.from_residual-in_err-body.ensures.1 (fails_in way (before_last refl) fill_token _ _ c.in_err-body.ensures)

pub repeated-returns-in_err-expect-2 : goal.repeated-returns-in_err-expect-2
repeated-returns-in_err-expect-2 g t c =
    let way = past (no_way (g.S.TokenSource.state c.args.self.now.source)) (closed (λ k. refl)) c.in_ok-expect.ensures.answers in
    let way = past way (before_last refl) c.in_ok-body.ensures in
    passed_part _ _ _ _ _ _ c.from_residual-in_err-expect-2.ensures.1 (fails way _ _ c.in_err-expect-2.ensures.answers)

pub repeated-returns : goal.repeated-returns
repeated-returns g t c =
    let way = past (no_way (g.S.TokenSource.state c.args.self.now.source)) (closed (λ k. refl)) c.in_ok-expect.ensures.answers in
    let way = past way (before_last refl) c.in_ok-body.ensures in
    ((_, _), reaches way c.in_ok-expect-2.ensures.answers)
