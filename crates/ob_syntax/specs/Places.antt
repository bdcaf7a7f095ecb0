-- A tree without its places: each place is 0.
use Rattle.std.specs.Prelude.{map, option_map}
use Rattle.ob_grammar.specs.declared.tree.Sign.{Sign}
use Rattle.ob_grammar.specs.Tree.{Name, Expr, Number, Named, Parens, Not, Product, Sum, Comparison, Operands, no_operand, operand, Selectors, no_selector, field, index, TypeExpr, NamedType, Array, Record, FieldLists, no_list, empty_list, fields, Stmt, Empty, Assign, Call, If, While, Repeat, Stmts, no_stmt, stmt, Branches, no_branch, branch, Otherwise, no_else, else', ConstDecl, TypeDecl, VarDecl, DeclarationPart, Section, Heading, Declarations, Declared, Procedures, no_procedure, procedure, Module}

abbrev pub bare_name : Name → Name
bare_name n = record { text = n.text; place = 0 }

abbrev pub bare_sign : Sign → Sign
bare_sign s = record { is_minus = s.is_minus; place = 0 }

abbrev mutual
  pub bare_expr : Expr → Expr
  bare_expr (Number value place) = Number value 0
  bare_expr (Named name selectors) = Named (bare_name name) (bare_selectors selectors)
  bare_expr (Parens place inner) = Parens 0 (bare_expr inner)
  bare_expr (Not place e) = Not 0 (bare_expr e)
  bare_expr (Product first rest) = Product (bare_expr first) (bare_operands rest)
  bare_expr (Sum sign first rest) = Sum (option_map bare_sign sign) (bare_expr first) (bare_operands rest)
  bare_expr (Comparison left operator place right) = Comparison (bare_expr left) operator 0 (bare_expr right)

  pub bare_operands : Operands → Operands
  bare_operands no_operand = no_operand
  bare_operands (operand operator place e rest) = operand operator 0 (bare_expr e) (bare_operands rest)

  pub bare_selectors : Selectors → Selectors
  bare_selectors no_selector = no_selector
  bare_selectors (field place name rest) = field 0 (bare_name name) (bare_selectors rest)
  bare_selectors (index place i rest) = index 0 (bare_expr i) (bare_selectors rest)

abbrev mutual
  pub bare_type : TypeExpr → TypeExpr
  bare_type (NamedType name) = NamedType (bare_name name)
  bare_type (Array place length element) = Array 0 (bare_expr length) (bare_type element)
  bare_type (Record place lists) = Record 0 (bare_fields lists)

  pub bare_fields : FieldLists → FieldLists
  bare_fields no_list = no_list
  bare_fields (empty_list rest) = empty_list (bare_fields rest)
  bare_fields (fields names t rest) = fields (map bare_name names) (bare_type t) (bare_fields rest)

abbrev mutual
  pub bare_stmt : Stmt → Stmt
  bare_stmt Empty = Empty
  bare_stmt (Assign target selectors e) = Assign (bare_name target) (bare_selectors selectors) (bare_expr e)
  bare_stmt (Call name actuals) = Call (bare_name name) (option_map (map bare_expr) actuals)
  bare_stmt (If place branches otherwise) = If 0 (bare_branches branches) (bare_otherwise otherwise)
  bare_stmt (While place condition body) = While 0 (bare_expr condition) (bare_stmts body)
  bare_stmt (Repeat place body condition) = Repeat 0 (bare_stmts body) (bare_expr condition)

  pub bare_stmts : Stmts → Stmts
  bare_stmts no_stmt = no_stmt
  bare_stmts (stmt s rest) = stmt (bare_stmt s) (bare_stmts rest)

  pub bare_branches : Branches → Branches
  bare_branches no_branch = no_branch
  bare_branches (branch condition body rest) = branch (bare_expr condition) (bare_stmts body) (bare_branches rest)

  pub bare_otherwise : Otherwise → Otherwise
  bare_otherwise no_else = no_else
  bare_otherwise (else' body) = else' (bare_stmts body)

abbrev pub bare_const : ConstDecl → ConstDecl
bare_const c = record { name = bare_name c.name; value = bare_expr c.value }

abbrev pub bare_type_decl : TypeDecl → TypeDecl
bare_type_decl t = record { name = bare_name t.name; definition = bare_type t.definition }

abbrev pub bare_variables : VarDecl → VarDecl
bare_variables v = record { names = map bare_name v.names; of_type = bare_type v.of_type }

abbrev pub bare_part : {A : Type 0} → (A → A) → DeclarationPart A → DeclarationPart A
bare_part f part = record { place = 0; declared = map f part.declared }

abbrev pub bare_section : Section → Section
bare_section s = record { is_var = s.is_var; names = map bare_name s.names; of_type = bare_type s.of_type }

abbrev pub bare_heading : Heading → Heading
bare_heading h =
    record {
      place = 0;
      name = bare_name h.name;
      is_exported = h.is_exported;
      parameters = option_map (map bare_section) h.parameters;
    }

abbrev mutual
  pub bare_declarations : Declarations → Declarations
  bare_declarations (Declared constants types variables procedures) =
      Declared (option_map (bare_part bare_const) constants) (option_map (bare_part bare_type_decl) types)
      (option_map (bare_part bare_variables) variables) (bare_procedures procedures)

  pub bare_procedures : Procedures → Procedures
  bare_procedures no_procedure = no_procedure
  bare_procedures (procedure heading inner body end_name rest) =
      procedure (bare_heading heading) (bare_declarations inner) (option_map bare_stmts body) (bare_name end_name) (bare_procedures rest)

-- a module without its places; two modules are the same but for places where these are equal
abbrev pub bare : Module → Module
bare m =
    record {
      name = bare_name m.name;
      declarations = bare_declarations m.declarations;
      body = option_map bare_stmts m.body;
      end_name = bare_name m.end_name;
    }
