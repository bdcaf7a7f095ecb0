use Rattle.std.proofs.Common.{◌≡◌, drop}
use Rattle.ob_grammar.specs.View.{stmts_in}
use Rattle.ob_trap_places.specs.Places.{parts_of_statements}
use Rattle.ob_trap_places.proofs.statement_places.+statements.Given as goal

-- the statement that is looked for is the same among those that are left
abbrev pub invariant-in_statements-loop-statement : goal.invariant-in_statements-loop-statement
invariant-in_statements-loop-statement l =
    parts_of_statements (stmts_in (drop l.statement-index l.statements)) l.left l.path ≡ parts_of_statements (stmts_in l.statements) l.number l.path
