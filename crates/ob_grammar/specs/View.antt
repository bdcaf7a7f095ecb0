-- The tree that a value of the program stands for: no pointers, and vectors as lists.
use Rattle.std.specs.Prelude.{ℕ, Bool, List, [], ◌∷◌, map, Option, Some, None, option_map, string_bytes, Vec}
use Rattle.std.specs.Global.{Global}
use Rattle.ob_grammar.specs.declared.tree.Name.{Name}
use Rattle.ob_grammar.specs.declared.tree.Expr.{Expr, Row_of-Operand, end_of-Operand, more_of-Operand, Row_of-Selector, end_of-Selector, more_of-Selector}
use Rattle.ob_grammar.specs.declared.tree.Expr.TheVariants.{Number, Named', Parens', Not', Product', Sum', Comparison'}
use Rattle.ob_grammar.specs.declared.tree.Selector.TheVariants.{Field, Index}
use Rattle.ob_grammar.specs.declared.tree.TypeExpr.{TypeExpr, Row_of-FieldList, end_of-FieldList, more_of-FieldList}
use Rattle.ob_grammar.specs.declared.tree.TypeExpr.TheVariants.{Named, Array', Record'}
use Rattle.ob_grammar.specs.declared.tree.FieldList.TheVariants.{Empty, Fields}
use Rattle.ob_grammar.specs.declared.tree.Stmt.{Stmt, Row_of-Stmt, end_of-Stmt, more_of-Stmt, Row_of-Branch, end_of-Branch, more_of-Branch, Held-Stmt-If-2, None', Some'}
use Rattle.ob_grammar.specs.declared.tree.Stmt.TheVariants as Stmts
use Rattle.ob_grammar.specs.declared.tree.Operand.{Operand}
use Rattle.ob_grammar.specs.declared.tree.Selector.{Selector}
use Rattle.ob_grammar.specs.declared.tree.FieldList.{FieldList}
use Rattle.ob_grammar.specs.declared.tree.Branch.{Branch}
use Rattle.ob_grammar.specs.declared.tree.ConstDecl.{ConstDecl}
use Rattle.ob_grammar.specs.declared.tree.TypeDecl.{TypeDecl}
use Rattle.ob_grammar.specs.declared.tree.VarDecl.{VarDecl}
use Rattle.ob_grammar.specs.declared.tree.Constants.{Constants}
use Rattle.ob_grammar.specs.declared.tree.Types.{Types}
use Rattle.ob_grammar.specs.declared.tree.Variables.{Variables}
use Rattle.ob_grammar.specs.declared.tree.Procedure.{Procedure, Procedure', out-Procedure}
use Rattle.ob_grammar.specs.declared.tree.Section.{Section}
use Rattle.ob_grammar.specs.declared.tree.Declarations.{Declarations, Declarations', Row_of-Procedure, end_of-Procedure, more_of-Procedure}
use Rattle.ob_grammar.specs.declared.tree.ModuleTree.{ModuleTree}
use Rattle.ob_grammar.specs.Tree

abbrev pub name_of : Name → Tree.Name
name_of n = record { text = string_bytes n.text; place = n.place }

abbrev mutual
  pub expr_of : Expr → Tree.Expr
  expr_of (Number value place) = Tree.Number value place
  expr_of (Named' name shape selectors) = Tree.Named (name_of name) (selectors_of selectors)
  expr_of (Parens' place p inner) = Tree.Parens place (expr_of inner)
  expr_of (Not' place p e) = Tree.Not place (expr_of e)
  expr_of (Product' p first shape rest) = Tree.Product (expr_of first) (operands_of rest)
  expr_of (Sum' sign p first shape rest) = Tree.Sum sign (expr_of first) (operands_of rest)
  expr_of (Comparison' p left operator place q right) = Tree.Comparison (expr_of left) operator place (expr_of right)

  pub operands_of : {m : _} → Row_of-Operand m → Tree.Operands
  operands_of end_of-Operand = Tree.no_operand
  operands_of (more_of-Operand operator place e rest) = Tree.operand operator place (expr_of e) (operands_of rest)

  pub selectors_of : {m : _} → Row_of-Selector m → Tree.Selectors
  selectors_of end_of-Selector = Tree.no_selector
  selectors_of (more_of-Selector (Field place name) rest) = Tree.field place (name_of name) (selectors_of rest)
  selectors_of (more_of-Selector (Index place i) rest) = Tree.index place (expr_of i) (selectors_of rest)

-- operands that stand outside an expression
abbrev pub operands_in : List Operand → Tree.Operands
operands_in [] = Tree.no_operand
operands_in (o ∷ rest) = Tree.operand o.operator o.place (expr_of o.value) (operands_in rest)

-- the selectors of a designator that stands outside an expression
abbrev pub selectors_in : List Selector → Tree.Selectors
selectors_in [] = Tree.no_selector
selectors_in (Field place name ∷ rest) = Tree.field place (name_of name) (selectors_in rest)
selectors_in (Index place i ∷ rest) = Tree.index place (expr_of i) (selectors_in rest)

abbrev mutual
  pub type_of : TypeExpr → Tree.TypeExpr
  type_of (Named name) = Tree.NamedType (name_of name)
  type_of (Array' place length p element) = Tree.Array place (expr_of length) (type_of element)
  type_of (Record' place shape lists) = Tree.Record place (fields_of lists)

  pub fields_of : {m : _} → Row_of-FieldList m → Tree.FieldLists
  fields_of end_of-FieldList = Tree.no_list
  fields_of (more_of-FieldList Empty rest) = Tree.empty_list (fields_of rest)
  fields_of (more_of-FieldList (Fields names t) rest) = Tree.fields (map name_of names.items) (type_of t) (fields_of rest)

-- field lists that stand outside a type
abbrev pub fields_in : List FieldList → Tree.FieldLists
fields_in [] = Tree.no_list
fields_in (Empty ∷ rest) = Tree.empty_list (fields_in rest)
fields_in (Fields names t ∷ rest) = Tree.fields (map name_of names.items) (type_of t) (fields_in rest)

abbrev mutual
  pub stmt_of : Stmt → Tree.Stmt
  stmt_of Stmts.Empty = Tree.Empty
  stmt_of (Stmts.Assign target e) = Tree.Assign (name_of target.name) (selectors_in target.selectors.items) (expr_of e)
  stmt_of (Stmts.Call name actuals) = Tree.Call (name_of name) (option_map (λ es. map expr_of es.items) actuals)
  stmt_of (Stmts.If' place shape branches otherwise) = Tree.If place (branches_of branches) (else_of otherwise)
  stmt_of (Stmts.While' place condition shape body) = Tree.While place (expr_of condition) (stmts_of body)
  stmt_of (Stmts.Repeat' place shape body condition) = Tree.Repeat place (stmts_of body) (expr_of condition)

  pub stmts_of : {m : _} → Row_of-Stmt m → Tree.Stmts
  stmts_of end_of-Stmt = Tree.no_stmt
  stmts_of (more_of-Stmt s rest) = Tree.stmt (stmt_of s) (stmts_of rest)

  pub branches_of : {m : _} → Row_of-Branch m → Tree.Branches
  branches_of end_of-Branch = Tree.no_branch
  branches_of (more_of-Branch condition shape body rest) = Tree.branch (expr_of condition) (stmts_of body) (branches_of rest)

  pub else_of : Held-Stmt-If-2 → Tree.Otherwise
  else_of None' = Tree.no_else
  else_of (Some' shape body) = Tree.else' (stmts_of body)

-- the statements of a body
abbrev pub stmts_in : List Stmt → Tree.Stmts
stmts_in [] = Tree.no_stmt
stmts_in (s ∷ rest) = Tree.stmt (stmt_of s) (stmts_in rest)

-- what stands behind ELSE
abbrev pub otherwise_of : Option (Vec Stmt Global) → Tree.Otherwise
otherwise_of None = Tree.no_else
otherwise_of (Some body) = Tree.else' (stmts_in body.items)

-- branches that stand outside a statement
abbrev pub branches_in : List Branch → Tree.Branches
branches_in [] = Tree.no_branch
branches_in (b ∷ rest) = Tree.branch (expr_of b.condition) (stmts_in b.body.items) (branches_in rest)

abbrev pub const_decl_of : ConstDecl → Tree.ConstDecl
const_decl_of c = record { name = name_of c.name; value = expr_of c.value }

abbrev pub type_decl_of : TypeDecl → Tree.TypeDecl
type_decl_of t = record { name = name_of t.name; definition = type_of t.definition }

abbrev pub var_decl_of : VarDecl → Tree.VarDecl
var_decl_of v = record { names = map name_of v.names.items; of_type = type_of v.of_type }

abbrev pub constants_of : Constants → Tree.DeclarationPart Tree.ConstDecl
constants_of part = record { place = part.place; declared = map const_decl_of part.declared.items }

abbrev pub types_of : Types → Tree.DeclarationPart Tree.TypeDecl
types_of part = record { place = part.place; declared = map type_decl_of part.declared.items }

abbrev pub variables_of : Variables → Tree.DeclarationPart Tree.VarDecl
variables_of part = record { place = part.place; declared = map var_decl_of part.declared.items }

abbrev pub section_of : Section → Tree.Section
section_of s = record { is_var = s.is_var; names = map name_of s.names.items; of_type = type_of s.of_type }

-- the heading of a procedure, from its parts
abbrev pub heading_with : ℕ → Name → Bool → Option (Vec Section Global) → Tree.Heading
heading_with place name is_exported parameters =
    record { place = place; name = name_of name; is_exported = is_exported; parameters = option_map (λ ss. map section_of ss.items) parameters }

abbrev mutual
  pub declarations_of : Declarations → Tree.Declarations
  declarations_of (Declarations' constants types variables shape procedures) =
      Tree.Declared (option_map constants_of constants) (option_map types_of types) (option_map variables_of variables)
      (procedures_of procedures)

  pub procedures_of : {m : _} → Row_of-Procedure m → Tree.Procedures
  procedures_of end_of-Procedure = Tree.no_procedure
  procedures_of (more_of-Procedure (Procedure' place name is_exported parameters declarations body end_name) rest) =
      Tree.procedure
      (heading_with place name is_exported parameters) (declarations_of declarations) (option_map (λ b. stmts_in b.items) body) (name_of end_name) (procedures_of rest)

-- the parts of a procedure that stands outside its declarations

abbrev pub heading_of : Procedure → Tree.Heading
heading_of p =
    let parts = out-Procedure p in heading_with parts.place parts.name parts.is_exported parts.parameters

abbrev pub inner_of : Procedure → Tree.Declarations
inner_of p = declarations_of (out-Procedure p).declarations

abbrev pub body_of : Procedure → Option Tree.Stmts
body_of p = option_map (λ b. stmts_in b.items) (out-Procedure p).body

-- a procedure before others
abbrev pub procedure_before : Procedure → Tree.Procedures → Tree.Procedures
procedure_before p rest = Tree.procedure (heading_of p) (inner_of p) (body_of p) (name_of (out-Procedure p).end_name) rest

abbrev pub procedures_in : List Procedure → Tree.Procedures
procedures_in [] = Tree.no_procedure
procedures_in (p ∷ rest) = procedure_before p (procedures_in rest)

abbrev pub module_of : ModuleTree → Tree.Module
module_of m =
    record {
      name = name_of m.name;
      declarations = declarations_of m.declarations;
      body = option_map (λ b. stmts_in b.items) m.body;
      end_name = name_of m.end_name;
    }
