-- The parts of the tree that code looks into, as it reads them.
use Rattle.std.specs.Prelude.{ℕ, List, ◌∷◌, Option, map, option_map, Vec}
use Rattle.std.specs.Global.{Global}
use Rattle.ob_grammar.specs.declared.tree.Expr.{Expr}
use Rattle.ob_grammar.specs.declared.tree.Selector.{Selector}
use Rattle.ob_grammar.specs.declared.tree.Selector.TheVariants.{Field, Index}
use Rattle.ob_grammar.specs.declared.tree.Stmt.{Stmt}
use Rattle.ob_grammar.specs.declared.tree.Procedure.{Procedure}
use Rattle.ob_grammar.specs.View.{expr_of, stmts_in, inner_of, body_of}
use Rattle.ob_grammar.specs.Tree as Tree
use Rattle.ob_typing.specs.Statements.{listed}
use Rattle.ob_trap_places.specs.Places.{Places, no_part, before, itself, of_parts, with_behind, places_in, parts_of_actuals, parts_of_statements, bodies_of}

-- a body that is lent
abbrev pub body_in : Option (Vec Stmt Global) → Option Tree.Stmts
body_in = option_map (λ statements. stmts_in statements.items)

-- from a selector
abbrev pub selector_places : Selector → Places
selector_places (Field place name) = itself place
selector_places (Index place i) = with_behind place (places_in (expr_of i))

-- from a branch: its condition, and the statements behind it
abbrev pub branch_places : Tree.Expr → Tree.Stmts → Places
branch_places condition body = of_parts (before (places_in condition) (before (of_parts (parts_of_statements body)) no_part))

-- the actuals of a call; none, where it has no parentheses
abbrev pub actuals_in : Option (Vec Expr Global) → List Tree.Expr
actuals_in actuals = listed (option_map (λ es. map expr_of es.items) actuals)

-- from a call with its name at a place: that, and the actuals behind it
abbrev pub call_places : (place : ℕ) → List Tree.Expr → Places
call_places place actuals = of_parts (before (itself place) (parts_of_actuals actuals))

-- the bodies of a procedure and of those within it
abbrev pub bodies_of_procedure : Procedure → List (Option Tree.Stmts)
bodies_of_procedure p = body_of p ∷ bodies_of (inner_of p)
