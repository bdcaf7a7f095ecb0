-- Well typed statements: judgements that lead from a tree, under declared names, to a part of the checked program.
use Rattle.std.specs.Prelude.{◌≡◌, ℕ, true, false, List, [], ◌∷◌, length, Option, Some, None}
use Rattle.ob_grammar.specs.Tree
use Rattle.ob_grammar.specs.Tree.{Expr, Selectors, Stmt, Stmts, Branches, Otherwise}
use Rattle.ob_interface.specs.declared.scalar.Scalar.{Scalar}
use Rattle.ob_interface.specs.declared.scalar.ScalarType.{ScalarType}
use Rattle.ob_interface.specs.declared.scalar.ScalarType.TheVariants.{Boolean}
use Rattle.ob_typing.specs.Program
use Rattle.ob_typing.specs.Program.{DataType, Simple, Expression, Designator, Actual, ByValue, ByPlace, Statement, Statements, Parameter}
use Rattle.ob_typing.specs.Scopes.{Environment, Meant, AConstant, AProcedure, meant, holds, same_type}
use Rattle.ob_typing.specs.Expressions.{InStatement, HasType, IsVariable}

-- a list whose parentheses do not stand is empty
abbrev pub listed : {A : Type 0} → Option (List A) → List A
listed None = []
listed (Some xs) = xs

-- a bare name with selectors, which may be a variable: not a constant's name
abbrev pub unless_constant : Meant → Tree.Name → Selectors → Option (Tree.Name × Selectors)
unless_constant (AConstant value) name selectors = None
unless_constant _ name selectors = Some (name, selectors)

abbrev pub bare : Environment → Expr → Option (Tree.Name × Selectors)
bare env (Tree.Named name selectors) = unless_constant (meant env name.text) name selectors
bare env _ = None

module _ (env : Environment) where
  -- the actual of a parameter
  pub data IsActual : Parameter → Expr → Actual → Type 0 where
    -- an expression of the parameter's type
    value : {p : Parameter} {e : Expr} {t : ScalarType} {c : Expression} {v : Option Scalar} →
        p.is_var ≡ false → HasType env InStatement e t c v → holds p.type t ≡ true → IsActual p e (ByValue c)
    -- for VAR a bare variable with selectors, of the same type
    place : {p : Parameter} {e : Expr} {name : Tree.Name} {selectors : Selectors} {t : DataType} {d : Designator} →
        p.is_var ≡ true → bare env e ≡ Some (name, selectors) → IsVariable env name selectors t d → same_type t p.type ≡ true →
        IsActual p e (ByPlace d)

  -- the actuals of a call fit the parameters, one by one
  pub data Fits : List Parameter → List Expr → List Actual → Type 0 where
    none : Fits [] [] []
    more : {p : Parameter} {ps : List Parameter} {e : Expr} {es : List Expr} {c : Actual} {cs : List Actual} →
        IsActual p e c → Fits ps es cs → Fits (p ∷ ps) (e ∷ es) (c ∷ cs)

  mutual
    pub data IsStatement : Stmt → Statement → Type 0 where
      -- the target is not structured, and the expression has its type
      assign : {name : Tree.Name} {selectors : Selectors} {e : Expr} {s : DataType} {t : ScalarType} {d : Designator} {c : Expression} {v : Option Scalar} →
          IsVariable env name selectors s d → HasType env InStatement e t c v → holds s t ≡ true →
          IsStatement (Tree.Assign name selectors e) (Program.Assign d c)
      call : {name : Tree.Name} {actuals : Option (List Expr)} {n : ℕ} {parameters : List Parameter} {cs : List Actual} →
          meant env name.text ≡ AProcedure n parameters → length (listed actuals) ≡ length parameters →
          Fits parameters (listed actuals) cs →
          IsStatement (Tree.Call name actuals) (Program.Call n cs)
      if' : {place : ℕ} {branches : Branches} {otherwise : Otherwise} {bs : Program.Branches} →
          AreBranches branches otherwise bs →
          IsStatement (Tree.If place branches otherwise) (Program.If bs)
      while : {place : ℕ} {condition : Expr} {body : Stmts} {c : Expression} {v : Option Scalar} {ss : Statements} →
          HasType env InStatement condition Boolean c v → AreStatements body ss →
          IsStatement (Tree.While place condition body) (Program.While c ss)
      repeat : {place : ℕ} {body : Stmts} {condition : Expr} {ss : Statements} {c : Expression} {v : Option Scalar} →
          AreStatements body ss → HasType env InStatement condition Boolean c v →
          IsStatement (Tree.Repeat place body condition) (Program.Repeat ss c)

    -- statements one behind the other; an empty one leaves nothing
    pub data AreStatements : Stmts → Statements → Type 0 where
      no_statement : AreStatements Tree.no_stmt Program.no_statement
      empty : {rest : Stmts} {cs : Statements} →
          AreStatements rest cs → AreStatements (Tree.stmt Tree.Empty rest) cs
      more : {s : Stmt} {rest : Stmts} {c : Statement} {cs : Statements} →
          IsStatement s c → AreStatements rest cs →
          AreStatements (Tree.stmt s rest) (Program.statement c cs)

    -- an absent ELSE and an empty one stay apart
    pub data AreBranches : Branches → Otherwise → Program.Branches → Type 0 where
      no_else : AreBranches Tree.no_branch Tree.no_else Program.no_branch
      otherwise : {body : Stmts} {ss : Statements} →
          AreStatements body ss → AreBranches Tree.no_branch (Tree.else' body) (Program.otherwise ss)
      branch : {condition : Expr} {body : Stmts} {rest : Branches} {o : Otherwise} {c : Expression} {v : Option Scalar} {ss : Statements} {bs : Program.Branches} →
          HasType env InStatement condition Boolean c v → AreStatements body ss → AreBranches rest o bs →
          AreBranches (Tree.branch condition body rest) o (Program.branch c ss bs)

  -- ["BEGIN" StatementSequence]
  pub data IsBody : Option Stmts → Statements → Type 0 where
    none : IsBody None Program.no_statement
    some : {body : Stmts} {ss : Statements} → AreStatements body ss → IsBody (Some body) ss
