-- The conditions beside the grammar: each name after END is that of its module or procedure, and at most deepest_nesting
-- constructs, 100, stand within one another. Both are one list of what breaks them, in the order of the text.
use Rattle.std.specs.Prelude.{◌≡◌, ℕ, ◌+◌, List, [], ◌∷◌, ◌++◌, Option, Contains, flat_map, nat_le, if◌then◌else◌}
use Rattle.std.specs.Option.{option_map_or}
use Rattle.std.specs.Str.{bytes_eq}
use Rattle.ob_grammar.specs.Limits.{deepest_nesting}
use Rattle.ob_grammar.specs.Tree.{Name, Expr, Number, Named, Parens, Not, Product, Sum, Comparison, Operands, no_operand, operand, Selectors, no_selector, field, index, TypeExpr, NamedType, Array, Record, FieldLists, no_list, empty_list, fields, Stmt, Empty, Assign, Call, If, While, Repeat, Stmts, no_stmt, stmt, Branches, no_branch, branch, Otherwise, no_else, else', ConstDecl, TypeDecl, VarDecl, DeclarationPart, Section, Declarations, Declared, Procedures, no_procedure, procedure, Module}

-- what breaks a condition, with the place of the token that breaks it
pub data Breach : Type 0 where
  -- a name behind an END is not that of its module or procedure
  name_differs : (place : ℕ) → Breach
  -- a construct opens within as many others as may stand within one another
  too_deep : (place : ℕ) → Breach

-- A construct that opens at this place, within n others. Constructs are procedure declarations, ARRAY and RECORD, IF, WHILE and REPEAT,
-- and in expressions parentheses, brackets and `~`.
abbrev pub opening : ℕ → ℕ → List Breach
opening n place = if nat_le deepest_nesting n then (too_deep place ∷ []) else []

-- where this name stands behind END in place of that one
abbrev pub differing : Name → Name → List Breach
differing name end_name = if bytes_eq name.text end_name.text then [] else (name_differs end_name.place ∷ [])

-- What breaks a condition in each part of a tree that stands within n constructs.

abbrev mutual
  pub in_expr : ℕ → Expr → List Breach
  in_expr n (Number value place) = []
  in_expr n (Named name selectors) = in_selectors n selectors
  in_expr n (Parens place inner) = opening n place ++ in_expr (n + 1) inner
  in_expr n (Not place e) = opening n place ++ in_expr (n + 1) e
  in_expr n (Product first rest) = in_expr n first ++ in_operands n rest
  in_expr n (Sum sign first rest) = in_expr n first ++ in_operands n rest
  in_expr n (Comparison left operator place right) = in_expr n left ++ in_expr n right

  pub in_operands : ℕ → Operands → List Breach
  in_operands n no_operand = []
  in_operands n (operand operator place e rest) = in_expr n e ++ in_operands n rest

  pub in_selectors : ℕ → Selectors → List Breach
  in_selectors n no_selector = []
  in_selectors n (field place name rest) = in_selectors n rest
  in_selectors n (index place i rest) = (opening n place ++ in_expr (n + 1) i) ++ in_selectors n rest

abbrev pub in_actuals : ℕ → Option (List Expr) → List Breach
in_actuals n actuals = option_map_or (flat_map (in_expr n)) actuals []

abbrev mutual
  pub in_type : ℕ → TypeExpr → List Breach
  in_type n (NamedType name) = []
  in_type n (Array place length element) = opening n place ++ (in_expr (n + 1) length ++ in_type (n + 1) element)
  in_type n (Record place lists) = opening n place ++ in_fields (n + 1) lists

  pub in_fields : ℕ → FieldLists → List Breach
  in_fields n no_list = []
  in_fields n (empty_list rest) = in_fields n rest
  in_fields n (fields names t rest) = in_type n t ++ in_fields n rest

abbrev mutual
  pub in_stmt : ℕ → Stmt → List Breach
  in_stmt n Empty = []
  in_stmt n (Assign target selectors e) = in_selectors n selectors ++ in_expr n e
  in_stmt n (Call name actuals) = in_actuals n actuals
  in_stmt n (If place branches otherwise) = opening n place ++ (in_branches (n + 1) branches ++ in_otherwise (n + 1) otherwise)
  in_stmt n (While place condition body) = opening n place ++ (in_expr (n + 1) condition ++ in_stmts (n + 1) body)
  in_stmt n (Repeat place body condition) = opening n place ++ (in_stmts (n + 1) body ++ in_expr (n + 1) condition)

  pub in_stmts : ℕ → Stmts → List Breach
  in_stmts n no_stmt = []
  in_stmts n (stmt s rest) = in_stmt n s ++ in_stmts n rest

  pub in_branches : ℕ → Branches → List Breach
  in_branches n no_branch = []
  in_branches n (branch condition body rest) = (in_expr n condition ++ in_stmts n body) ++ in_branches n rest

  pub in_otherwise : ℕ → Otherwise → List Breach
  in_otherwise n no_else = []
  in_otherwise n (else' body) = in_stmts n body

abbrev pub in_body : ℕ → Option Stmts → List Breach
in_body n body = option_map_or (in_stmts n) body []

abbrev pub in_constants : ℕ → Option (DeclarationPart ConstDecl) → List Breach
in_constants n constants = option_map_or (λ part. flat_map (λ c. in_expr n c.value) part.declared) constants []

abbrev pub in_types : ℕ → Option (DeclarationPart TypeDecl) → List Breach
in_types n types = option_map_or (λ part. flat_map (λ t. in_type n t.definition) part.declared) types []

abbrev pub in_variables : ℕ → Option (DeclarationPart VarDecl) → List Breach
in_variables n variables = option_map_or (λ part. flat_map (λ v. in_type n v.of_type) part.declared) variables []

abbrev pub in_parameters : ℕ → Option (List Section) → List Breach
in_parameters n parameters = option_map_or (flat_map (λ section. in_type n section.of_type)) parameters []

abbrev mutual
  pub in_declarations : ℕ → Declarations → List Breach
  in_declarations n (Declared constants types variables procedures) =
      in_constants n constants ++ (in_types n types ++ (in_variables n variables ++ in_procedures n procedures))

  -- a procedure is a construct from its PROCEDURE to the name behind its END
  pub in_procedures : ℕ → Procedures → List Breach
  in_procedures n no_procedure = []
  in_procedures n (procedure heading inner body end_name rest) =
      ((opening n heading.place ++ in_parameters (n + 1) heading.parameters)
      ++ (in_declarations (n + 1) inner ++ (in_body (n + 1) body ++ differing heading.name end_name)))
      ++ in_procedures n rest

abbrev pub breaches : Module → List Breach
breaches m = in_declarations 0 m.declarations ++ (in_body 0 m.body ++ differing m.name m.end_name)

-- nothing breaks a condition
abbrev pub KeepsConditions : Module → Type 0
KeepsConditions m = breaches m ≡ []

-- the name behind an END that differs from its module's or procedure's stands at this place
abbrev pub NameDiffersAt : Module → ℕ → Type 0
NameDiffersAt m place = Contains (breaches m) (name_differs place)

-- the construct that opens at this place is too deep
abbrev pub TooDeepAt : Module → ℕ → Type 0
TooDeepAt m place = Contains (breaches m) (too_deep place)
