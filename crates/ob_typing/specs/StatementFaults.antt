-- The rule that a statement breaks first.
use Rattle.std.specs.Prelude.{◌≡◌, ◌≢◌, ℕ, true, false, List, ◌∷◌, length, Option, Some, None}
use Rattle.ob_grammar.specs.Tree
use Rattle.ob_grammar.specs.Tree.{Expr, Selectors, Stmt, Stmts, Branches, Otherwise}
use Rattle.ob_interface.specs.declared.scalar.Scalar.{Scalar}
use Rattle.ob_interface.specs.declared.scalar.ScalarType.{ScalarType}
use Rattle.ob_interface.specs.declared.scalar.ScalarType.TheVariants.{Integer, Boolean}
use Rattle.ob_typing.specs.declared.rule.Rule.{Rule}
use Rattle.ob_typing.specs.declared.rule.Rule.TheVariants.{UnknownName, WrongKind, TypesDiffer, BadActuals, WrongLevel}
use Rattle.ob_typing.specs.declared.rule.BrokenRule.{BrokenRule}
use Rattle.ob_typing.specs.Program.{DataType, Expression, Designator, Actual, Statement, Statements, Parameter}
use Rattle.ob_typing.specs.Scopes.{Environment, Meant, Nothing, AVariable, FarVariable, AProcedure, meant, type_meant, holds, same_type}
use Rattle.ob_typing.specs.Expressions.{InStatement, HasType, IsVariable}
use Rattle.ob_typing.specs.Statements.{listed, bare, IsActual, IsStatement, AreStatements}
use Rattle.ob_typing.specs.ExpressionFaults.{broken, first_place, ExpressionFails, SelectorsFail}

-- the rule that a name breaks where a variable is needed
abbrev pub place_broken : Meant → Option Rule
place_broken Nothing = Some UnknownName
place_broken (AVariable slot t) = None
place_broken FarVariable = Some WrongLevel
place_broken _ = Some WrongKind

-- the rule that a name breaks where a procedure is needed
abbrev pub procedure_broken : Meant → Option Rule
procedure_broken Nothing = Some UnknownName
procedure_broken (AProcedure n ps) = None
procedure_broken _ = Some WrongKind

module _ (env : Environment) where
  -- a target, or an actual for VAR
  pub data DesignatorFails : Tree.Name → Selectors → BrokenRule → Type 0 where
    name : {name : Tree.Name} {selectors : Selectors} {rule : Rule} →
        place_broken (meant env name.text) ≡ Some rule → DesignatorFails name selectors (broken rule name.place)
    selectors : {name : Tree.Name} {selectors : Selectors} {s : DataType} {fault : BrokenRule} →
        place_broken (meant env name.text) ≡ None → type_meant (meant env name.text) ≡ Some s →
        SelectorsFail env InStatement s selectors fault → DesignatorFails name selectors fault

  pub data ActualFails : Parameter → Expr → BrokenRule → Type 0 where
    -- for a value parameter an expression of its type
    value : {p : Parameter} {e : Expr} {fault : BrokenRule} →
        p.is_var ≡ false → ExpressionFails env InStatement e fault → ActualFails p e fault
    value_type : {p : Parameter} {e : Expr} {t : ScalarType} {c : Expression} {v : Option Scalar} →
        p.is_var ≡ false → HasType env InStatement e t c v → holds p.type t ≡ false →
        ActualFails p e (broken TypesDiffer (first_place e))
    -- for VAR a bare variable of its type
    place : {p : Parameter} {e : Expr} {name : Tree.Name} {selectors : Selectors} {fault : BrokenRule} →
        p.is_var ≡ true → bare env e ≡ Some (name, selectors) → DesignatorFails name selectors fault → ActualFails p e fault
    place_type : {p : Parameter} {e : Expr} {name : Tree.Name} {selectors : Selectors} {t : DataType} {d : Designator} →
        p.is_var ≡ true → bare env e ≡ Some (name, selectors) → IsVariable env name selectors t d → same_type t p.type ≡ false →
        ActualFails p e (broken TypesDiffer (first_place e))
    -- what is no variable is tested as an expression first
    not_bare : {p : Parameter} {e : Expr} {fault : BrokenRule} →
        p.is_var ≡ true → bare env e ≡ None → ExpressionFails env InStatement e fault → ActualFails p e fault
    not_bare_type : {p : Parameter} {e : Expr} {t : ScalarType} {c : Expression} {v : Option Scalar} →
        p.is_var ≡ true → bare env e ≡ None → HasType env InStatement e t c v → holds p.type t ≡ false →
        ActualFails p e (broken TypesDiffer (first_place e))
    no_variable : {p : Parameter} {e : Expr} {t : ScalarType} {c : Expression} {v : Option Scalar} →
        p.is_var ≡ true → bare env e ≡ None → HasType env InStatement e t c v → holds p.type t ≡ true →
        ActualFails p e (broken BadActuals (first_place e))

  pub data ActualsFail : List Parameter → List Expr → BrokenRule → Type 0 where
    first : {p : Parameter} {ps : List Parameter} {e : Expr} {es : List Expr} {fault : BrokenRule} →
        ActualFails p e fault → ActualsFail (p ∷ ps) (e ∷ es) fault
    others : {p : Parameter} {ps : List Parameter} {e : Expr} {es : List Expr} {c : Actual} {fault : BrokenRule} →
        IsActual env p e c → ActualsFail ps es fault → ActualsFail (p ∷ ps) (e ∷ es) fault

  mutual
    pub data StatementFails : Stmt → BrokenRule → Type 0 where
      target : {name : Tree.Name} {selectors : Selectors} {e : Expr} {fault : BrokenRule} →
          DesignatorFails name selectors fault → StatementFails (Tree.Assign name selectors e) fault
      assigned : {name : Tree.Name} {selectors : Selectors} {e : Expr} {s : DataType} {d : Designator} {fault : BrokenRule} →
          IsVariable env name selectors s d → ExpressionFails env InStatement e fault →
          StatementFails (Tree.Assign name selectors e) fault
      -- the target is structured, or of another type than the expression
      assign : {name : Tree.Name} {selectors : Selectors} {e : Expr} {s : DataType} {t : ScalarType} {d : Designator} {c : Expression} {v : Option Scalar} →
          IsVariable env name selectors s d → HasType env InStatement e t c v → holds s t ≡ false →
          StatementFails (Tree.Assign name selectors e) (broken TypesDiffer (first_place e))
      procedure : {name : Tree.Name} {actuals : Option (List Expr)} {rule : Rule} →
          procedure_broken (meant env name.text) ≡ Some rule → StatementFails (Tree.Call name actuals) (broken rule name.place)
      -- another number of actuals, at the procedure's name
      count : {name : Tree.Name} {actuals : Option (List Expr)} {n : ℕ} {ps : List Parameter} →
          meant env name.text ≡ AProcedure n ps → length (listed actuals) ≢ length ps →
          StatementFails (Tree.Call name actuals) (broken BadActuals name.place)
      actuals : {name : Tree.Name} {actuals : Option (List Expr)} {n : ℕ} {ps : List Parameter} {fault : BrokenRule} →
          meant env name.text ≡ AProcedure n ps → length (listed actuals) ≡ length ps → ActualsFail ps (listed actuals) fault →
          StatementFails (Tree.Call name actuals) fault
      branches : {place : ℕ} {branches : Branches} {otherwise : Otherwise} {fault : BrokenRule} →
          BranchesFail branches otherwise fault → StatementFails (Tree.If place branches otherwise) fault
      within_condition : {place : ℕ} {e : Expr} {body : Stmts} {fault : BrokenRule} →
          ExpressionFails env InStatement e fault → StatementFails (Tree.While place e body) fault
      -- a condition that is no BOOLEAN, at its first byte
      condition : {place : ℕ} {e : Expr} {body : Stmts} {c : Expression} {v : Option Scalar} →
          HasType env InStatement e Integer c v → StatementFails (Tree.While place e body) (broken TypesDiffer (first_place e))
      body : {place : ℕ} {e : Expr} {body : Stmts} {c : Expression} {v : Option Scalar} {fault : BrokenRule} →
          HasType env InStatement e Boolean c v → StatementsFail body fault → StatementFails (Tree.While place e body) fault
      repeated : {place : ℕ} {body : Stmts} {e : Expr} {fault : BrokenRule} →
          StatementsFail body fault → StatementFails (Tree.Repeat place body e) fault
      within_until : {place : ℕ} {body : Stmts} {e : Expr} {ss : Statements} {fault : BrokenRule} →
          AreStatements env body ss → ExpressionFails env InStatement e fault → StatementFails (Tree.Repeat place body e) fault
      -- a condition that is no BOOLEAN, at its first byte
      until : {place : ℕ} {body : Stmts} {e : Expr} {ss : Statements} {c : Expression} {v : Option Scalar} →
          AreStatements env body ss → HasType env InStatement e Integer c v →
          StatementFails (Tree.Repeat place body e) (broken TypesDiffer (first_place e))

    pub data StatementsFail : Stmts → BrokenRule → Type 0 where
      first_statement : {s : Stmt} {rest : Stmts} {fault : BrokenRule} →
          StatementFails s fault → StatementsFail (Tree.stmt s rest) fault
      behind_empty : {rest : Stmts} {fault : BrokenRule} →
          StatementsFail rest fault → StatementsFail (Tree.stmt Tree.Empty rest) fault
      other_statements : {s : Stmt} {rest : Stmts} {c : Statement} {fault : BrokenRule} →
          IsStatement env s c → StatementsFail rest fault → StatementsFail (Tree.stmt s rest) fault

    pub data BranchesFail : Branches → Otherwise → BrokenRule → Type 0 where
      within_else : {body : Stmts} {fault : BrokenRule} →
          StatementsFail body fault → BranchesFail Tree.no_branch (Tree.else' body) fault
      within_branch_condition : {e : Expr} {body : Stmts} {rest : Branches} {o : Otherwise} {fault : BrokenRule} →
          ExpressionFails env InStatement e fault → BranchesFail (Tree.branch e body rest) o fault
      branch_condition : {e : Expr} {body : Stmts} {rest : Branches} {o : Otherwise} {c : Expression} {v : Option Scalar} →
          HasType env InStatement e Integer c v → BranchesFail (Tree.branch e body rest) o (broken TypesDiffer (first_place e))
      branch_body : {e : Expr} {body : Stmts} {rest : Branches} {o : Otherwise} {c : Expression} {v : Option Scalar} {fault : BrokenRule} →
          HasType env InStatement e Boolean c v → StatementsFail body fault → BranchesFail (Tree.branch e body rest) o fault
      other_branches : {e : Expr} {body : Stmts} {rest : Branches} {o : Otherwise} {c : Expression} {v : Option Scalar} {ss : Statements} {fault : BrokenRule} →
          HasType env InStatement e Boolean c v → AreStatements env body ss → BranchesFail rest o fault →
          BranchesFail (Tree.branch e body rest) o fault
