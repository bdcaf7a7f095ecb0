-- The rule that an expression breaks first. All that is tested before is right: what stands before in the text,
-- the rules within a construct before the rule of the whole, and the least number at one place.
use Rattle.std.specs.Prelude.{◌≡◌, ℕ, true, false, Option, Some, None}
use Rattle.ob_grammar.specs.declared.tree.Operator.{Operator}
use Rattle.ob_grammar.specs.declared.tree.Sign.{Sign}
use Rattle.ob_grammar.specs.Tree
use Rattle.ob_grammar.specs.Tree.{Expr, Operands, Selectors}
use Rattle.ob_interface.specs.declared.scalar.Scalar.{Scalar}
use Rattle.ob_interface.specs.declared.scalar.ScalarType.{ScalarType}
use Rattle.ob_interface.specs.declared.scalar.ScalarType.TheVariants.{Integer, Boolean}
use Rattle.ob_typing.specs.declared.operator.BinaryOperator.{BinaryOperator}
use Rattle.ob_typing.specs.declared.operator.Relation.{Relation}
use Rattle.ob_typing.specs.declared.rule.Rule.{Rule}
use Rattle.ob_typing.specs.declared.rule.Rule.TheVariants.{UnknownName, WrongKind, TypesDiffer, BadConstant, WrongLevel}
use Rattle.ob_typing.specs.declared.rule.BrokenRule.{BrokenRule}
use Rattle.ob_typing.specs.Program.{DataType, Fields, Expression, Designator}
use Rattle.ob_typing.specs.Arithmetic.{Gives, Traps, takes_both, compares, operator_of, relation_of}
use Rattle.ob_typing.specs.Scopes.{Environment, Meant, Nothing, AConstant, AType, AVariable, FarVariable, AProcedure, meant, type_meant, is_simple, fields_of, elements_of, field_from}
use Rattle.ob_typing.specs.Expressions.{Use, InStatement, InConstant, NotComputed, behind, value_behind, sign_fits, value_signed, HasType, IsVariable}

-- a rule fails at a place
abbrev pub broken : Rule → ℕ → BrokenRule
broken rule place = record { rule = rule; place = place }

-- where an expression begins
abbrev pub first_place : Expr → ℕ
first_place (Tree.Number z place) = place
first_place (Tree.Named name selectors) = name.place
first_place (Tree.Parens place e) = place
first_place (Tree.Not place e) = place
first_place (Tree.Product first rest) = first_place first
first_place (Tree.Sum None first rest) = first_place first
first_place (Tree.Sum (Some sign) first rest) = sign.place
first_place (Tree.Comparison left operator place right) = first_place left

-- the rule that a variable's name breaks in an expression: a constant expression has none
abbrev pub variable_broken : Use → Option Rule → Option Rule
variable_broken InStatement rule = rule
variable_broken InConstant rule = Some BadConstant
variable_broken NotComputed rule = Some BadConstant

-- the rule that a name breaks where a value is needed
abbrev pub value_broken : Use → Meant → Option Rule
value_broken use' Nothing = Some UnknownName
value_broken use' (AConstant v) = None
value_broken use' (AType t) = Some WrongKind
value_broken use' (AVariable slot t) = variable_broken use' None
value_broken use' FarVariable = variable_broken use' (Some WrongLevel)
value_broken use' (AProcedure n ps) = Some WrongKind

module _ (env : Environment) where
  mutual
    pub data ExpressionFails : Use → Expr → BrokenRule → Type 0 where
      -- a name
      name : {use' : Use} {name : Tree.Name} {selectors : Selectors} {rule : Rule} →
          value_broken use' (meant env name.text) ≡ Some rule →
          ExpressionFails use' (Tree.Named name selectors) (broken rule name.place)
      selectors : {use' : Use} {name : Tree.Name} {selectors : Selectors} {s : DataType} {fault : BrokenRule} →
          value_broken use' (meant env name.text) ≡ None → type_meant (meant env name.text) ≡ Some s →
          SelectorsFail use' s selectors fault → ExpressionFails use' (Tree.Named name selectors) fault
      -- a whole array or record, at its first byte
      structured : {name : Tree.Name} {selectors : Selectors} {t : DataType} {d : Designator} →
          IsVariable env name selectors t d → is_simple t ≡ false →
          ExpressionFails InStatement (Tree.Named name selectors) (broken TypesDiffer name.place)
      within_parens : {use' : Use} {place : ℕ} {e : Expr} {fault : BrokenRule} →
          ExpressionFails use' e fault → ExpressionFails use' (Tree.Parens place e) fault
      -- `~` takes a BOOLEAN
      within_not : {use' : Use} {place : ℕ} {e : Expr} {fault : BrokenRule} →
          ExpressionFails use' e fault → ExpressionFails use' (Tree.Not place e) fault
      not : {use' : Use} {place : ℕ} {e : Expr} {c : Expression} {v : Option Scalar} →
          HasType env use' e Integer c v → ExpressionFails use' (Tree.Not place e) (broken TypesDiffer place)
      first_factor : {use' : Use} {first : Expr} {rest : Operands} {fault : BrokenRule} →
          ExpressionFails use' first fault → ExpressionFails use' (Tree.Product first rest) fault
      other_factors : {use' : Use} {first : Expr} {rest : Operands} {t : ScalarType} {b : Expression} {v : Option Scalar} {fault : BrokenRule} →
          HasType env use' first t b v → OperandsFail use' t v rest fault → ExpressionFails use' (Tree.Product first rest) fault
      first_term : {use' : Use} {sign : Option Sign} {first : Expr} {rest : Operands} {fault : BrokenRule} →
          ExpressionFails use' first fault → ExpressionFails use' (Tree.Sum sign first rest) fault
      -- a sign takes an INTEGER, and a constant one has a result
      sign : {use' : Use} {sign : Sign} {first : Expr} {rest : Operands} {t : ScalarType} {b : Expression} {v : Option Scalar} →
          HasType env use' first t b v → sign_fits (Some sign) t ≡ false →
          ExpressionFails use' (Tree.Sum (Some sign) first rest) (broken TypesDiffer sign.place)
      sign_traps : {use' : Use} {sign : Sign} {first : Expr} {rest : Operands} {t : ScalarType} {b : Expression} {v : Option Scalar} {k : ℕ} →
          HasType env use' first t b v → sign_fits (Some sign) t ≡ true → value_signed (Some sign) v ≡ Traps k →
          ExpressionFails use' (Tree.Sum (Some sign) first rest) (broken BadConstant sign.place)
      other_terms : {use' : Use} {sign : Option Sign} {first : Expr} {rest : Operands} {t : ScalarType} {b : Expression} {u v : Option Scalar} {fault : BrokenRule} →
          HasType env use' first t b u → sign_fits sign t ≡ true → value_signed sign u ≡ Gives v →
          OperandsFail use' t v rest fault → ExpressionFails use' (Tree.Sum sign first rest) fault
      left : {use' : Use} {left right : Expr} {operator : Operator} {place : ℕ} {fault : BrokenRule} →
          ExpressionFails use' left fault → ExpressionFails use' (Tree.Comparison left operator place right) fault
      right : {use' : Use} {left right : Expr} {operator : Operator} {place : ℕ} {s : ScalarType} {b : Expression} {v : Option Scalar} {fault : BrokenRule} →
          HasType env use' left s b v → ExpressionFails use' right fault →
          ExpressionFails use' (Tree.Comparison left operator place right) fault
      comparison : {use' : Use} {left right : Expr} {operator : Operator} {place : ℕ} {s t : ScalarType} {o : Relation} {b c : Expression} {v w : Option Scalar} →
          HasType env use' left s b v → HasType env use' right t c w → relation_of operator ≡ Some o → compares o s t ≡ false →
          ExpressionFails use' (Tree.Comparison left operator place right) (broken TypesDiffer place)

    -- behind an operand of a type, and its value where it is known
    pub data OperandsFail : Use → ScalarType → Option Scalar → Operands → BrokenRule → Type 0 where
      operand : {use' : Use} {t : ScalarType} {v : Option Scalar} {operator : Operator} {o : BinaryOperator} {place : ℕ} {e : Expr} {rest : Operands} {fault : BrokenRule} →
          operator_of operator ≡ Some o → ExpressionFails (behind use' o v) e fault →
          OperandsFail use' t v (Tree.operand operator place e rest) fault
      -- an operator takes operands of its type, and a constant one has a result
      operator : {use' : Use} {operator : Operator} {o : BinaryOperator} {place : ℕ} {e : Expr} {rest : Operands} {s t : ScalarType} {c : Expression} {u v : Option Scalar} →
          operator_of operator ≡ Some o → HasType env (behind use' o v) e s c u → takes_both o t s ≡ false →
          OperandsFail use' t v (Tree.operand operator place e rest) (broken TypesDiffer place)
      operator_traps : {use' : Use} {operator : Operator} {o : BinaryOperator} {place : ℕ} {e : Expr} {rest : Operands} {s t : ScalarType} {c : Expression} {u v : Option Scalar} {k : ℕ} →
          operator_of operator ≡ Some o → HasType env (behind use' o v) e s c u → takes_both o t s ≡ true → value_behind o v u ≡ Traps k →
          OperandsFail use' t v (Tree.operand operator place e rest) (broken BadConstant place)
      others : {use' : Use} {operator : Operator} {o : BinaryOperator} {place : ℕ} {e : Expr} {rest : Operands} {s t : ScalarType} {c : Expression} {u v w : Option Scalar} {fault : BrokenRule} →
          operator_of operator ≡ Some o → HasType env (behind use' o v) e s c u → takes_both o t s ≡ true → value_behind o v u ≡ Gives w →
          OperandsFail use' t w rest fault → OperandsFail use' t v (Tree.operand operator place e rest) fault

    -- behind a part of this type
    pub data SelectorsFail : Use → DataType → Selectors → BrokenRule → Type 0 where
      -- a selector of what has no such parts, at the selector's end
      no_record : {use' : Use} {s : DataType} {place : ℕ} {name : Tree.Name} {rest : Selectors} →
          fields_of s ≡ None → SelectorsFail use' s (Tree.field place name rest) (broken WrongKind place)
      no_array : {use' : Use} {s : DataType} {place : ℕ} {i : Expr} {rest : Selectors} {c : Expression} {v : Option Scalar} →
          HasType env use' i Integer c v → elements_of s ≡ None → SelectorsFail use' s (Tree.index place i rest) (broken WrongKind place)
      no_field : {use' : Use} {s : DataType} {fields : Fields} {place : ℕ} {name : Tree.Name} {rest : Selectors} →
          fields_of s ≡ Some fields → field_from 0 fields name.text ≡ None →
          SelectorsFail use' s (Tree.field place name rest) (broken UnknownName name.place)
      within_index : {use' : Use} {s : DataType} {place : ℕ} {i : Expr} {rest : Selectors} {fault : BrokenRule} →
          ExpressionFails use' i fault → SelectorsFail use' s (Tree.index place i rest) fault
      -- an index that is no INTEGER, at its first byte
      index : {use' : Use} {s : DataType} {place : ℕ} {i : Expr} {rest : Selectors} {c : Expression} {v : Option Scalar} →
          HasType env use' i Boolean c v → SelectorsFail use' s (Tree.index place i rest) (broken TypesDiffer (first_place i))
      behind_field : {use' : Use} {s t : DataType} {fields : Fields} {place position : ℕ} {name : Tree.Name} {rest : Selectors} {fault : BrokenRule} →
          fields_of s ≡ Some fields → field_from 0 fields name.text ≡ Some (position, t) →
          SelectorsFail use' t rest fault → SelectorsFail use' s (Tree.field place name rest) fault
      behind_index : {use' : Use} {s element : DataType} {place length : ℕ} {i : Expr} {rest : Selectors} {c : Expression} {v : Option Scalar} {fault : BrokenRule} →
          HasType env use' i Integer c v → elements_of s ≡ Some (length, element) →
          SelectorsFail use' element rest fault → SelectorsFail use' s (Tree.index place i rest) fault
