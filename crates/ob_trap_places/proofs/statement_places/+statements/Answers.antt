use Rattle.std.proofs.Common.{rules, ◌≡◌, ◌-◌, ◌∷◌, length, ap, sym, ◌∙◌, arith}
use Rattle.ob_grammar.specs.View.{expr_of, stmt_of, stmts_in, branches_in, otherwise_of}
use Rattle.ob_grammar.proofs.Rows.{stmt_of-if, stmt_of-while, stmt_of-repeat}
use Rattle.ob_trap_places.specs.Places as Places
use Rattle.ob_trap_places.proofs.Found.{branch_here, behind_branches}
use Rattle.ob_trap_places.proofs.statement_places.+statements.Goals as goal

pub in_statement-returns-in-Some : goal.in_statement-returns-in-Some
in_statement-returns-in-Some t c =
    let number = c.in_ok-number-in-If.number.now in
    let further = c.in_ok-number-in-If.further.now in
    let path : c.args.path.now ≡ c.in_ok-number-in-If.number.now ∷ c.in_ok-number-in-If.further.now = search rules in
    let last = Places.parts_of_else (otherwise_of c.in-If.otherwise) in
    c.in_branch.ensures
    ∙ sym (ap (λ s. Places.places_in_statement s c.args.path.now) (ap stmt_of c.in-If.is ∙ stmt_of-if c.in-If.place c.in-If.branches c.in-If.otherwise)
    ∙ ap (Places.of_parts (Places.parts_of_branches (branches_in c.in-If.branches.items) last)) path
    ∙ ap (λ bs. Places.parts_of_branches (branches_in bs) last number further) (sym c.as_slice-all.ensures.value)
    ∙ branch_here last c.as_slice-all.result.now number c.in-Some.branch.now further c.in-Some.ensures.lookup.3.0 c.in-Some.ensures.lookup.1)

pub in_statement-returns-in-Some-otherwise : goal.in_statement-returns-in-Some-otherwise
in_statement-returns-in-Some-otherwise t c =
    let number = c.in_ok-number-in-If.number.now in
    let further = c.in_ok-number-in-If.further.now in
    let path : c.args.path.now ≡ c.in_ok-number-in-If.number.now ∷ c.in_ok-number-in-If.further.now = search rules in
    let last = Places.parts_of_else (otherwise_of c.in-If.otherwise) in
    c.in_else.ensures
    ∙ ap (λ ss. Places.before (Places.of_parts (Places.parts_of_statements (stmts_in ss))) Places.no_part (number - length c.as_slice-all.result.now) further) c.as_slice-in-Some-otherwise.ensures.value
    ∙ sym (ap (λ s. Places.places_in_statement s c.args.path.now) (ap stmt_of c.in-If.is ∙ stmt_of-if c.in-If.place c.in-If.branches c.in-If.otherwise)
    ∙ ap (Places.of_parts (Places.parts_of_branches (branches_in c.in-If.branches.items) last)) path
    ∙ ap (λ bs. Places.parts_of_branches (branches_in bs) last number further) (sym c.as_slice-all.ensures.value)
    ∙ behind_branches last c.as_slice-all.result.now number further c.in-None.ensures.lookup.3
    ∙ ap (λ o. Places.parts_of_else (otherwise_of o) (number - length c.as_slice-all.result.now) further) c.in-Some-otherwise.is)

pub in_statement-returns-in-None-otherwise : goal.in_statement-returns-in-None-otherwise
in_statement-returns-in-None-otherwise t c =
    let number = c.in_ok-number-in-If.number.now in
    let further = c.in_ok-number-in-If.further.now in
    let path : c.args.path.now ≡ c.in_ok-number-in-If.number.now ∷ c.in_ok-number-in-If.further.now = search rules in
    let last = Places.parts_of_else (otherwise_of c.in-If.otherwise) in
    sym (ap (λ s. Places.places_in_statement s c.args.path.now) (ap stmt_of c.in-If.is ∙ stmt_of-if c.in-If.place c.in-If.branches c.in-If.otherwise)
    ∙ ap (Places.of_parts (Places.parts_of_branches (branches_in c.in-If.branches.items) last)) path
    ∙ ap (λ bs. Places.parts_of_branches (branches_in bs) last number further) (sym c.as_slice-all.ensures.value)
    ∙ behind_branches last c.as_slice-all.result.now number further c.in-None.ensures.lookup.3
    ∙ ap (λ o. Places.parts_of_else (otherwise_of o) (number - length c.as_slice-all.result.now) further) c.in-None-otherwise.is)

pub in_statement-returns-in-Some-eq2-default : goal.in_statement-returns-in-Some-eq2-default
in_statement-returns-in-Some-eq2-default t c =
    let further = c.in-Some-eq2-default.further.now in
    let first : c.args.path.now ≡ c.in-Some-eq2-default.field-0-0.now ∷ c.in-Some-eq2-default.further.now = search rules in
    let part : c.in-Some-eq2-default.field-0-0.now ≡ 2 = first_of (search rules, omega arith) in
    let condition = Places.places_in (expr_of c.in-While.condition) in
    let body = Places.of_parts (Places.parts_of_statements (stmts_in c.in-While.body.items)) in
    c.in_body.ensures
    ∙ ap (λ ss. Places.of_parts (Places.parts_of_statements (stmts_in ss)) further) c.as_slice-in-Some-eq2-default.ensures.value
    ∙ sym (ap (λ s. Places.places_in_statement s c.args.path.now) (ap stmt_of c.in-While.is ∙ stmt_of-while c.in-While.place c.in-While.condition c.in-While.body)
    ∙ ap (Places.of_parts (Places.before (Places.itself c.in-While.place) (Places.before condition (Places.before body Places.no_part)))) (first ∙ ap (λ n. n ∷ further) part))

pub in_statement-returns-in-Some-eq1-default-split_first-2 : goal.in_statement-returns-in-Some-eq1-default-split_first-2
in_statement-returns-in-Some-eq1-default-split_first-2 t c =
    let further = c.in-Some-eq1-default-split_first-2.further.now in
    let first : c.args.path.now ≡ c.in-Some-eq1-default-split_first-2.field-0-0.now ∷ c.in-Some-eq1-default-split_first-2.further.now = search rules in
    let part : c.in-Some-eq1-default-split_first-2.field-0-0.now ≡ 1 = first_of (search rules, omega arith) in
    let condition = Places.places_in (expr_of c.in-Repeat.condition) in
    let body = Places.of_parts (Places.parts_of_statements (stmts_in c.in-Repeat.body.items)) in
    c.in_body-in-Some-eq1-default-split_first-2.ensures
    ∙ ap (λ ss. Places.of_parts (Places.parts_of_statements (stmts_in ss)) further) c.as_slice-in-Some-eq1-default-split_first-2.ensures.value
    ∙ sym (ap (λ s. Places.places_in_statement s c.args.path.now) (ap stmt_of c.in-Repeat.is ∙ stmt_of-repeat c.in-Repeat.place c.in-Repeat.body c.in-Repeat.condition)
    ∙ ap (Places.of_parts (Places.before (Places.itself c.in-Repeat.place) (Places.before body (Places.before condition Places.no_part)))) (first ∙ ap (λ n. n ∷ further) part))
