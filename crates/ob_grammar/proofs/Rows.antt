-- The vectors within a part of the tree, as lists.
use Rattle.std.proofs.Common.{◌≡◌, ℕ, Option, Some, None, refl, sym, ◌∙◌, ap, map, option_map, Box, Vec, Global}
use mathlib.Core.Former.{Count}
use denote.Hole.Carrier.{out}
use Rattle.ob_grammar.specs.declared.tree.Expr.{Expr, Row_of-Operand, end_of-Operand, more_of-Operand, items-the_row-Operand, items_hidden-the_row-Operand-1, Row_of-Selector, end_of-Selector, more_of-Selector, items-the_row-Selector, items_hidden-the_row-Selector-0}
use Rattle.ob_grammar.specs.declared.tree.Expr.TheVariants as Exprs
use Rattle.ob_grammar.specs.declared.tree.Designator.{Designator}
use Rattle.ob_grammar.specs.declared.tree.Selector.TheVariants.{Field, Index}
use Rattle.ob_grammar.specs.declared.tree.Sign.{Sign}
use Rattle.ob_grammar.specs.declared.tree.TypeExpr.{TypeExpr, Row_of-FieldList, end_of-FieldList, more_of-FieldList, items-the_row-FieldList, items_hidden-the_row-FieldList-0}
use Rattle.ob_grammar.specs.declared.tree.TypeExpr.TheVariants as Types
use Rattle.ob_grammar.specs.declared.tree.FieldList.{FieldList}
use Rattle.ob_grammar.specs.declared.tree.FieldList.TheVariants.{Empty, Fields}
use Rattle.ob_grammar.specs.declared.tree.Operand.{Operand}
use Rattle.ob_grammar.specs.declared.tree.Stmt.{Stmt, Row_of-Stmt, end_of-Stmt, more_of-Stmt, Row_of-Branch, end_of-Branch, more_of-Branch, Held-Stmt-If-2, None', Some', items-the_row-Stmt, items_hidden-the_row-Stmt-0, items_shown-the_row-Stmt-0, items-the_row-Branch, items_hidden-the_row-Branch-1, back-Stmt-If-2}
use Rattle.ob_grammar.specs.declared.tree.Stmt.TheVariants as Variants
use Rattle.ob_grammar.specs.declared.tree.Branch.{Branch}
use Rattle.ob_grammar.specs.declared.tree.Declarations.{Declarations, Declarations', Row_of-Procedure, end_of-Procedure, more_of-Procedure, items-the_row-Procedure, items_shown-the_row-Procedure-0}
use Rattle.ob_grammar.specs.declared.tree.Declarations.TheViews.{out-Declarations, out-Procedure}
use Rattle.ob_grammar.specs.declared.tree.Procedure.{Procedure'}
use Rattle.ob_grammar.specs.Tree
use Rattle.ob_grammar.specs.View.{name_of, expr_of, operands_of, operands_in, selectors_of, selectors_in, type_of, fields_of, fields_in, stmt_of, stmts_of, stmts_in, branches_of, branches_in, else_of, constants_of, types_of, variables_of, declarations_of, procedures_of, procedures_in, procedure_before}
use Rattle.ob_grammar.specs.View.{otherwise_of}

-- expressions

operands_row : (n : Count) (row : Row_of-Operand n) → operands_of row ≡ operands_in (items-the_row-Operand n row)
operands_row n end_of-Operand = refl
operands_row n (more_of-Operand operator place e rest) = ap (Tree.operand operator place (expr_of e)) (operands_row _ rest)

abbrev operand_row_of : Expr → (n : Count) × Row_of-Operand n
operand_row_of (Exprs.Product' p first shape rest) = (_, rest)
operand_row_of (Exprs.Sum' sign p first shape rest) = (_, rest)
operand_row_of _ = (_, end_of-Operand)

pub expr_of-product : (first : Box Expr Global) (rest : Vec Operand Global) →
    expr_of (Exprs.Product first rest) ≡ Tree.Product (expr_of first.value) (operands_in rest.items)
expr_of-product first rest =
    let row = operand_row_of (Exprs.Product first rest) in
    ap (Tree.Product (expr_of first.value)) (operands_row row.0 row.1 ∙ ap operands_in (items_hidden-the_row-Operand-1 rest))

pub expr_of-sum : (sign : Option Sign) (first : Box Expr Global) (rest : Vec Operand Global) →
    expr_of (Exprs.Sum sign first rest) ≡ Tree.Sum sign (expr_of first.value) (operands_in rest.items)
expr_of-sum sign first rest =
    let row = operand_row_of (Exprs.Sum sign first rest) in
    ap (Tree.Sum sign (expr_of first.value)) (operands_row row.0 row.1 ∙ ap operands_in (items_hidden-the_row-Operand-1 rest))

selectors_row : (n : Count) (row : Row_of-Selector n) → selectors_of row ≡ selectors_in (items-the_row-Selector n row)
selectors_row n end_of-Selector = refl
selectors_row n (more_of-Selector (Field place name) rest) = ap (Tree.field place (name_of name)) (selectors_row _ rest)
selectors_row n (more_of-Selector (Index place i) rest) = ap (Tree.index place (expr_of i)) (selectors_row _ rest)

abbrev selector_row_of : Expr → (n : Count) × Row_of-Selector n
selector_row_of (Exprs.Named' name shape selectors) = (_, selectors)
selector_row_of _ = (_, end_of-Selector)

pub expr_of-named : (d : Designator) → expr_of (Exprs.Named d) ≡ Tree.Named (name_of d.name) (selectors_in d.selectors.items)
expr_of-named d =
    let row = selector_row_of (Exprs.Named d) in
    ap (Tree.Named (name_of d.name)) (selectors_row row.0 row.1 ∙ ap selectors_in (items_hidden-the_row-Selector-0 d.selectors))

-- types

fields_row : (n : Count) (row : Row_of-FieldList n) → fields_of row ≡ fields_in (items-the_row-FieldList n row)
fields_row n end_of-FieldList = refl
fields_row n (more_of-FieldList Empty rest) = ap Tree.empty_list (fields_row _ rest)
fields_row n (more_of-FieldList (Fields names t) rest) = ap (Tree.fields (map name_of names.items) (type_of t)) (fields_row _ rest)

abbrev field_row_of : TypeExpr → (n : Count) × Row_of-FieldList n
field_row_of (Types.Record' place shape lists) = (_, lists)
field_row_of _ = (_, end_of-FieldList)

pub type_of-record : (place : ℕ) (fields : Vec FieldList Global) → type_of (Types.Record place fields) ≡ Tree.Record place (fields_in fields.items)
type_of-record place fields =
    let row = field_row_of (Types.Record place fields) in
    ap (Tree.Record place) (fields_row row.0 row.1 ∙ ap fields_in (items_hidden-the_row-FieldList-0 fields))

-- statements

stmts_row : (n : Count) (row : Row_of-Stmt n) → stmts_of row ≡ stmts_in (items-the_row-Stmt n row)
stmts_row n end_of-Stmt = refl
stmts_row n (more_of-Stmt s rest) = ap (Tree.stmt (stmt_of s)) (stmts_row _ rest)

abbrev body_row_of : Stmt → (n : Count) × Row_of-Stmt n
body_row_of (Variants.While' place condition shape body) = (_, body)
body_row_of (Variants.Repeat' place shape body condition) = (_, body)
body_row_of _ = (_, end_of-Stmt)

pub stmt_of-while : (place : ℕ) (condition : Expr) (body : Vec Stmt Global) →
    stmt_of (Variants.While place condition body) ≡ Tree.While place (expr_of condition) (stmts_in body.items)
stmt_of-while place condition body =
    let row = body_row_of (Variants.While place condition body) in
    ap (Tree.While place (expr_of condition)) (stmts_row row.0 row.1 ∙ ap stmts_in (items_hidden-the_row-Stmt-0 body))

pub stmt_of-repeat : (place : ℕ) (body : Vec Stmt Global) (condition : Expr) →
    stmt_of (Variants.Repeat place body condition) ≡ Tree.Repeat place (stmts_in body.items) (expr_of condition)
stmt_of-repeat place body condition =
    let row = body_row_of (Variants.Repeat place body condition) in
    ap (λ ss. Tree.Repeat place ss (expr_of condition)) (stmts_row row.0 row.1 ∙ ap stmts_in (items_hidden-the_row-Stmt-0 body))

branches_row : (n : Count) (row : Row_of-Branch n) → branches_of row ≡ branches_in (items-the_row-Branch n row)
branches_row n end_of-Branch = refl
branches_row n (more_of-Branch {n = m} condition shape body rest) =
    ap (Tree.branch (expr_of condition) (stmts_of body)) (branches_row m rest)
    ∙ ap (λ ss. Tree.branch (expr_of condition) ss (branches_in (items-the_row-Branch m rest)))
    (stmts_row _ body ∙ ap stmts_in (sym (items_shown-the_row-Stmt-0 shape body)))

abbrev branch_row_of : Stmt → (n : Count) × Row_of-Branch n
branch_row_of (Variants.If' place shape branches otherwise) = (_, branches)
branch_row_of _ = (_, end_of-Branch)

abbrev else_row_of : Held-Stmt-If-2 → (n : Count) × Row_of-Stmt n
else_row_of (Some' shape body) = (_, body)
else_row_of None' = (_, end_of-Stmt)

else_held : (otherwise : Option (Vec Stmt Global)) → else_of (back-Stmt-If-2 otherwise) ≡ otherwise_of otherwise
else_held None = refl
else_held (Some body) =
    let row = else_row_of (back-Stmt-If-2 (Some body)) in
    ap Tree.else' (stmts_row row.0 row.1 ∙ ap stmts_in (items_hidden-the_row-Stmt-0 body))

pub stmt_of-if : (place : ℕ) (branches : Vec Branch Global) (otherwise : Option (Vec Stmt Global)) →
    stmt_of (Variants.If place branches otherwise) ≡ Tree.If place (branches_in branches.items) (otherwise_of otherwise)
stmt_of-if place branches otherwise =
    let row = branch_row_of (Variants.If place branches otherwise) in
    ap (Tree.If place (branches_of row.1)) (else_held otherwise)
    ∙ ap (λ bs. Tree.If place bs (otherwise_of otherwise)) (branches_row row.0 row.1 ∙ ap branches_in (items_hidden-the_row-Branch-1 branches))

-- declarations

pub procedures_row : (n : Count) (row : Row_of-Procedure n) → procedures_of row ≡ procedures_in (items-the_row-Procedure n row)
unfolding out-Procedure out
procedures_row n end_of-Procedure = refl
procedures_row n (more_of-Procedure (Procedure' place name is_exported parameters declarations body end_name) rest) =
    ap (procedure_before (Procedure' place name is_exported parameters declarations body end_name)) (procedures_row _ rest)

pub declarations_of-parts : (d : Declarations) →
    declarations_of d
    ≡ Tree.Declared (option_map constants_of (out-Declarations d).constants) (option_map types_of (out-Declarations d).types)
    (option_map variables_of (out-Declarations d).variables) (procedures_in (out-Declarations d).procedures.items)
unfolding out-Declarations out
declarations_of-parts (Declarations' constants types variables shape procedures) =
    ap (Tree.Declared (option_map constants_of constants) (option_map types_of types)
    (option_map variables_of variables))
    (procedures_row _ procedures ∙ ap procedures_in (sym (items_shown-the_row-Procedure-0 shape procedures)))
