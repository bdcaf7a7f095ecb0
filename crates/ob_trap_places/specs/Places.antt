-- Where in a module's text the operation of a site stands. The path of the site leads through the tree, of which parentheses,
-- empty statements and a sign `+` count for nothing.
use Rattle.std.specs.Prelude.{ℕ, zero, suc, List, [], ◌∷◌, ◌++◌, Option, Some, None, slice_get, if◌then◌else◌}
use Rattle.ob_grammar.specs.declared.tree.Sign.{Sign}
use Rattle.ob_grammar.specs.Tree.{Expr, Number, Named, Parens, Not, Product, Sum, Comparison, Operands, no_operand, operand}
use Rattle.ob_grammar.specs.Tree.{Stmt, Empty, Assign, Call, If, While, Repeat, Stmts, no_stmt, stmt, Branches, no_branch, branch, Otherwise, no_else, else'}
use Rattle.ob_grammar.specs.Tree.{Selectors, no_selector, field, index, Declarations, Declared, Procedures, no_procedure, procedure, Module}
use Rattle.ob_typing.specs.Statements.{listed}
use Rattle.ob_trap_places.specs.Site.{Site}

-- from a path into a construct, to the place of the operation there
abbrev pub Places : Type 0
Places = List ℕ → Option ℕ

-- the same from the number of a part, and the path into that
abbrev pub Parts : Type 0
Parts = ℕ → Places

abbrev pub no_part : Parts
no_part part path = None

-- one part before others
abbrev pub before : Places → Parts → Parts
before first rest zero path = first path
before first rest (suc part) path = rest part path

-- the operation itself, at this place
abbrev pub itself : (place : ℕ) → Places
itself place [] = Some place
itself place (part ∷ path) = None

-- a construct of these parts
abbrev pub of_parts : Parts → Places
of_parts parts [] = None
of_parts parts (part ∷ path) = parts part path

-- an operator or a bracket at a place, and what stands behind it
abbrev pub with_behind : (place : ℕ) → Places → Places
with_behind place inner = of_parts (before (itself place) (before inner no_part))

abbrev pub signed : Option Sign → Places → Places
signed None inner = inner
signed (Some sign) inner = if sign.is_minus then with_behind sign.place inner else inner

abbrev mutual
  pub places_in : Expr → Places
  places_in (Number value place) path = None
  places_in (Named name selectors) path = of_parts (parts_of_selectors selectors) path
  places_in (Parens place inner) path = places_in inner path
  places_in (Not place inner) path = with_behind place (places_in inner) path
  places_in (Product first rest) path = of_parts (before (places_in first) (parts_of_operands rest)) path
  places_in (Sum sign first rest) path = of_parts (before (signed sign (places_in first)) (parts_of_operands rest)) path
  places_in (Comparison left operator place right) path =
      of_parts (before (places_in left) (before (itself place) (before (places_in right) no_part))) path

  -- operators, each with the operand behind it
  pub parts_of_operands : Operands → Parts
  parts_of_operands no_operand part path = None
  parts_of_operands (operand operator place value rest) part path =
      before (with_behind place (places_in value)) (parts_of_operands rest) part path

  -- fields, and brackets with an index
  pub parts_of_selectors : Selectors → Parts
  parts_of_selectors no_selector part path = None
  parts_of_selectors (field place name rest) part path = before (itself place) (parts_of_selectors rest) part path
  parts_of_selectors (index place i rest) part path = before (with_behind place (places_in i)) (parts_of_selectors rest) part path

abbrev pub parts_of_actuals : List Expr → Parts
parts_of_actuals [] part path = None
parts_of_actuals (e ∷ es) part path = before (places_in e) (parts_of_actuals es) part path

-- an empty statement is no part
abbrev pub unless_empty : Stmt → Places → Parts → Parts
unless_empty Empty first rest = rest
unless_empty _ first rest = before first rest

abbrev mutual
  pub places_in_statement : Stmt → Places
  places_in_statement Empty path = None
  places_in_statement (Assign target selectors value) path =
      of_parts (before (of_parts (parts_of_selectors selectors)) (before (places_in value) no_part)) path
  places_in_statement (Call name actuals) path =
      of_parts (before (itself name.place) (parts_of_actuals (listed actuals))) path
  places_in_statement (If place branches otherwise) path = of_parts (parts_of_branches branches (parts_of_else otherwise)) path
  places_in_statement (While place condition body) path =
      of_parts (before (itself place) (before (places_in condition) (before (of_parts (parts_of_statements body)) no_part))) path
  places_in_statement (Repeat place body condition) path =
      of_parts (before (itself place) (before (of_parts (parts_of_statements body)) (before (places_in condition) no_part))) path

  pub parts_of_statements : Stmts → Parts
  parts_of_statements no_stmt part path = None
  parts_of_statements (stmt first rest) part path =
      unless_empty first (places_in_statement first) (parts_of_statements rest) part path

  -- branches, before what stands behind all of them
  pub parts_of_branches : Branches → Parts → Parts
  parts_of_branches no_branch last part path = last part path
  parts_of_branches (branch condition body rest) last part path =
      before (of_parts (before (places_in condition) (before (of_parts (parts_of_statements body)) no_part))) (parts_of_branches rest last) part path

  pub parts_of_else : Otherwise → Parts
  parts_of_else no_else part path = None
  parts_of_else (else' body) part path = before (of_parts (parts_of_statements body)) no_part part path

abbrev pub places_in_body : Option Stmts → Places
places_in_body None path = None
places_in_body (Some body) path = of_parts (parts_of_statements body) path

-- the bodies of procedures in the order of their headings
abbrev mutual
  pub bodies_of : Declarations → List (Option Stmts)
  bodies_of (Declared constants types variables procedures) = bodies_in procedures

  pub bodies_in : Procedures → List (Option Stmts)
  bodies_in no_procedure = []
  bodies_in (procedure heading declarations body end_name rest) = body ∷ bodies_of declarations ++ bodies_in rest

abbrev pub places_in_one : Option (Option Stmts) → Places
places_in_one None path = None
places_in_one (Some body) path = places_in_body body path

-- in the procedure of a number, or in the module's own body
abbrev pub places_in_module : Module → Option ℕ → Places
places_in_module m None path = places_in_body m.body path
places_in_module m (Some number) path = places_in_one (slice_get (bodies_of m.declarations) number) path

-- the place of the operation that a trap comes from
abbrev pub place_of : Module → Site → Option ℕ
place_of m site = places_in_module m site.procedure site.path
