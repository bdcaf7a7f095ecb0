-- The vectors within expressions and statements of the program, as lists.
use Rattle.std.proofs.Common.{◌≡◌, Option, Some, None, refl, ap, sym, ◌∙◌, Box, Vec, string_bytes}
use Rattle.std.specs.declared.alloc.Global.{Global}
use mathlib.Core.Former.{Count}
use Rattle.ob_interface.specs.declared.scalar.ScalarType.{ScalarType}
use Rattle.ob_typing.specs.Program as Program
use Rattle.ob_checked.specs.declared.program.Expression.{Expression, Row_of-Operation, end_of-Operation, more_of-Operation, Row_of-Selector, end_of-Selector, more_of-Selector, items-the_row-Operation, items_hidden-the_row-Operation-1, items-the_row-Selector, items_hidden-the_row-Selector-0}
use Rattle.ob_checked.specs.declared.program.Expression.TheVariants as Expressions
use Rattle.ob_checked.specs.declared.program.Operation.{Operation}
use Rattle.ob_checked.specs.declared.program.Branch.{Branch}
use Rattle.ob_checked.specs.declared.program.Statement.{Statement, Row_of-Statement, end_of-Statement, more_of-Statement, Row_of-Branch, end_of-Branch, more_of-Branch, Held-Statement-If-1, None', Some', items-the_row-Statement, items_hidden-the_row-Statement-0, items_shown-the_row-Statement-0, items-the_row-Branch, items_hidden-the_row-Branch-1, back-Statement-If-1}
use Rattle.ob_checked.specs.declared.program.Statement.TheVariants as Variants
use Rattle.ob_checked.specs.declared.program.Designator.{Designator}
use Rattle.ob_checked.specs.declared.program.Selector.TheVariants.{Field, Element}
use Rattle.ob_checked.specs.View.{expression_of, operations_of, operations_in, selectors_of, selectors_in, slot_of, designator_of, statement_of, statements_of, statements_in, branches_of, branches_in, else_of, otherwise_of}

operations_row : (n : _) (row : Row_of-Operation n) → operations_of row ≡ operations_in (items-the_row-Operation n row)
operations_row n end_of-Operation = refl
operations_row n (more_of-Operation operator e rest) = ap (Program.operation operator (expression_of e)) (operations_row _ rest)

abbrev operation_row_of : Expression → (n : Count) × Row_of-Operation n
operation_row_of (Expressions.Computed' p first shape rest) = (_, rest)
operation_row_of _ = (_, end_of-Operation)

pub expression_of-computed : (first : Box Expression Global) (rest : Vec Operation Global) →
    expression_of (Expressions.Computed first rest) ≡ Program.Computed (expression_of first.value) (operations_in rest.items)
expression_of-computed first rest =
    let row = operation_row_of (Expressions.Computed first rest) in
    ap (Program.Computed (expression_of first.value)) (operations_row row.0 row.1 ∙ ap operations_in (items_hidden-the_row-Operation-1 rest))

selectors_row : (n : _) (row : Row_of-Selector n) → selectors_of row ≡ selectors_in (items-the_row-Selector n row)
selectors_row n end_of-Selector = refl
selectors_row n (more_of-Selector (Field position name) rest) = ap (Program.field_of position (string_bytes name)) (selectors_row _ rest)
selectors_row n (more_of-Selector (Element len index) rest) = ap (Program.element_of len (expression_of index)) (selectors_row _ rest)

abbrev selector_row_of : Expression → (n : Count) × Row_of-Selector n
selector_row_of (Expressions.ValueOf' type slot shape rest) = (_, rest)
selector_row_of _ = (_, end_of-Selector)

pub expression_of-value : (type : ScalarType) (d : Designator) →
    expression_of (Expressions.ValueOf type d) ≡ Program.ValueOf type (designator_of d)
expression_of-value type d =
    let row = selector_row_of (Expressions.ValueOf type d) in
    ap (λ ss. Program.ValueOf type (Program.Designated (slot_of d.slot) ss)) (selectors_row row.0 row.1 ∙ ap selectors_in (items_hidden-the_row-Selector-0 d.selectors))

-- statements

statements_row : (n : Count) (row : Row_of-Statement n) → statements_of row ≡ statements_in (items-the_row-Statement n row)
statements_row n end_of-Statement = refl
statements_row n (more_of-Statement s rest) = ap (Program.statement (statement_of s)) (statements_row _ rest)

abbrev body_row_of : Statement → (n : Count) × Row_of-Statement n
body_row_of (Variants.While' condition shape body) = (_, body)
body_row_of (Variants.Repeat' shape body condition) = (_, body)
body_row_of _ = (_, end_of-Statement)

pub statement_of-while : (condition : Expression) (body : Vec Statement Global) →
    statement_of (Variants.While condition body) ≡ Program.While (expression_of condition) (statements_in body.items)
statement_of-while condition body =
    let row = body_row_of (Variants.While condition body) in
    ap (Program.While (expression_of condition)) (statements_row row.0 row.1 ∙ ap statements_in (items_hidden-the_row-Statement-0 body))

pub statement_of-repeat : (body : Vec Statement Global) (condition : Expression) →
    statement_of (Variants.Repeat body condition) ≡ Program.Repeat (statements_in body.items) (expression_of condition)
statement_of-repeat body condition =
    let row = body_row_of (Variants.Repeat body condition) in
    ap (λ ss. Program.Repeat ss (expression_of condition)) (statements_row row.0 row.1 ∙ ap statements_in (items_hidden-the_row-Statement-0 body))

branches_row : (n : Count) (row : Row_of-Branch n) (last : Program.Branches) → branches_of row last ≡ branches_in (items-the_row-Branch n row) last
branches_row n end_of-Branch last = refl
branches_row n (more_of-Branch {n = m} condition shape body rest) last =
    ap (Program.branch (expression_of condition) (statements_of body)) (branches_row m rest last)
    ∙ ap (λ ss. Program.branch (expression_of condition) ss (branches_in (items-the_row-Branch m rest) last))
    (statements_row _ body ∙ ap statements_in (sym (items_shown-the_row-Statement-0 shape body)))

abbrev branch_row_of : Statement → (n : Count) × Row_of-Branch n
branch_row_of (Variants.If' shape branches otherwise) = (_, branches)
branch_row_of _ = (_, end_of-Branch)

abbrev else_row_of : Held-Statement-If-1 → (n : Count) × Row_of-Statement n
else_row_of (Some' shape body) = (_, body)
else_row_of None' = (_, end_of-Statement)

else_held : (otherwise : Option (Vec Statement Global)) → else_of (back-Statement-If-1 otherwise) ≡ otherwise_of otherwise
else_held None = refl
else_held (Some body) =
    let row = else_row_of (back-Statement-If-1 (Some body)) in
    ap Program.otherwise (statements_row row.0 row.1 ∙ ap statements_in (items_hidden-the_row-Statement-0 body))

pub statement_of-if : (branches : Vec Branch Global) (otherwise : Option (Vec Statement Global)) →
    statement_of (Variants.If branches otherwise) ≡ Program.If (branches_in branches.items (otherwise_of otherwise))
statement_of-if branches otherwise =
    let row = branch_row_of (Variants.If branches otherwise) in
    ap (λ last. Program.If (branches_of row.1 last)) (else_held otherwise)
    ∙ ap Program.If (branches_row row.0 row.1 (otherwise_of otherwise) ∙ ap (λ bs. branches_in bs (otherwise_of otherwise)) (items_hidden-the_row-Branch-1 branches))
