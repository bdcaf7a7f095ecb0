use Rattle.std.proofs.Common.{refl, ap, ◌∙◌, arith}
use Rattle.ob_code_scheme.specs.Scheme as Scheme
use Rattle.ob_checked.specs.View.{statement_of, statements_in, branches_in, otherwise_of}
use Rattle.ob_checked.proofs.Rows.{statement_of-if, statement_of-while, statement_of-repeat}
use Rattle.ob_code.specs.Scoped.{own_in}
use Rattle.ob_code.proofs.Falls.{weight, weight_of_all, weight_of_branches, weight_at}
use Rattle.ob_code.proofs.Sums.{sum_ends, if_sized, while_sized, repeat_sized, branches_sized}
use Rattle.ob_code.proofs.sizes.+statement_sizes.Goals as goal

pub statements_size-returns : goal.statements_size-returns
statements_size-returns t c =
    sum_ends (λ xs. Scheme.statements_size (own_in c.args.scopes.now) (statements_in xs)) c.args.statements.now c.loop-statement.statement-index c.loop-statement.sum _ refl c.loop-statement-test.false c.loop-statement.invariant

pub statements_size-statement_size-requires : goal.statements_size-statement_size-requires
statements_size-statement_size-requires t c =
    let less = weight_at c.args.statements.now c.loop-statement.statement-index c.statement-item.result c.loop-statement-test.true in
    let same = ap (λ s. weight (statement_of s)) c.statement-item.is in
    (omega (arith, less, same), tt)

pub statement_size-branches_size-requires : goal.statement_size-branches_size-requires
statement_size-branches_size-requires t c =
    let whole = ap weight (ap statement_of c.in-If.is ∙ statement_of-if c.in-If.branches c.in-If.otherwise) in
    let parts = ap (λ bs. weight_of_branches (branches_in bs (otherwise_of c.in-If.otherwise))) c.as_slice-in-If.ensures.value in
    (omega (arith, whole, parts), tt)

pub statement_size-statements_size-requires : goal.statement_size-statements_size-requires
statement_size-statements_size-requires t c =
    let whole = ap weight (ap statement_of c.in-While.is ∙ statement_of-while c.in-While.condition c.in-While.body) in
    let parts = ap (λ ss. weight_of_all (statements_in ss)) c.as_slice-in-While.ensures.value in
    (omega (arith, whole, parts), tt)

pub statement_size-statements_size-requires-in-Repeat : goal.statement_size-statements_size-requires-in-Repeat
statement_size-statements_size-requires-in-Repeat t c =
    let whole = ap weight (ap statement_of c.in-Repeat.is ∙ statement_of-repeat c.in-Repeat.body c.in-Repeat.condition) in
    let parts = ap (λ ss. weight_of_all (statements_in ss)) c.as_slice-in-Repeat.ensures.value in
    (omega (arith, whole, parts), tt)

pub statement_size-returns-in-If : goal.statement_size-returns-in-If
statement_size-returns-in-If t c =
    if_sized (own_in c.args.scopes.now) c.args.statement.now c.in-If.branches c.in-If.otherwise c.as_slice-in-If.result.now c.branches_size.result c.in-If.is c.as_slice-in-If.ensures.value c.branches_size.ensures

pub statement_size-returns-in-While : goal.statement_size-returns-in-While
statement_size-returns-in-While t c =
    while_sized (own_in c.args.scopes.now) c.args.statement.now c.in-While.condition c.in-While.body c.as_slice-in-While.result.now c.saturating_add-in-While.result c.saturating_add-before.result c.size-in-While.result c.statements_size.result
    c.in-While.is c.as_slice-in-While.ensures.value c.size-in-While.ensures c.saturating_add-before.ensures c.statements_size.ensures c.saturating_add-in-While.ensures

pub statement_size-returns-in-Repeat : goal.statement_size-returns-in-Repeat
statement_size-returns-in-Repeat t c =
    repeat_sized (own_in c.args.scopes.now) c.args.statement.now c.in-Repeat.body c.in-Repeat.condition c.as_slice-in-Repeat.result.now c.saturating_add-in-Repeat.result c.saturating_add-behind.result c.size-in-Repeat.result c.statements_size-in-Repeat.result
    c.in-Repeat.is c.as_slice-in-Repeat.ensures.value c.size-in-Repeat.ensures c.saturating_add-behind.ensures c.statements_size-in-Repeat.ensures c.saturating_add-in-Repeat.ensures

pub branches_size-returns : goal.branches_size-returns
branches_size-returns t c =
    branches_sized (own_in c.args.scopes.now) c.args.branches.now c.in-Some.rest.now c.in-Some.first.now (otherwise_of c.args.otherwise.now) c.as_slice-2.result.now c.follows-more.result
    c.over_size.result c.saturating_add-2.result c.saturating_add-before.result c.saturating_add.result c.size.result c.statements_size-inside.result c.branches_size-behind.result
    c.in-Some.ensures.cases.0 c.as_slice-2.ensures.value c.follows-more.ensures c.over_size.ensures.size c.size.ensures c.saturating_add-before.ensures c.statements_size-inside.ensures
    c.branches_size-behind.ensures c.saturating_add.ensures c.saturating_add-2.ensures
