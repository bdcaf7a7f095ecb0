-- Where a trap comes from, and what it could not do there. A path leads from the statements of a body inwards: each number on it
-- counts, from 0, the parts of a construct in text order, and the last is that of the operation itself. The parts are
--   of statements, each statement;
--   of an assignment, its target 0 and its expression 1;
--   of a call, its name 0, and from 1 on the actuals;
--   of IF, each branch, with the condition 0 and the statements 1 as its parts, and in the end the statements behind ELSE;
--   of WHILE, the word 0, the condition 1 and the statements 2; of REPEAT, the word 0, the statements 1 and the condition 2;
--   of a minus sign or `~`, the sign 0 and the operand 1;
--   of a comparison, the left side 0, the relation 1 and the right side 2;
--   of operands with operators between them, the first operand 0, and from 1 on each operator with the operand behind it;
--   of an operator with its operand, the operator 0 and the operand 1;
--   of a variable, each field and each index; of an index, the bracket 0 and what stands in it 1.
use Rattle.std.specs.Prelude.{◌≡◌, ℕ, ℤ, List, [], ◌∷◌, Option, Some, None}
use Rattle.ob_interface.specs.declared.scalar.Scalar.{Scalar}
use Rattle.ob_typing.specs.declared.operator.BinaryOperator.{BinaryOperator}
use Rattle.ob_typing.specs.Arithmetic.{Evaluated, Gives, Traps, computed, negated, too_many_activations, no_turn_left}
use Rattle.ob_meaning.specs.OverStore.{Outcome, Done, Trap, within}

-- what could not be done
pub data Cause : Type 0 where
  -- an operator on these values
  Operating : (operator : BinaryOperator) (left right : Scalar) → Cause
  -- a minus sign before this value
  Negating : (operand : Scalar) → Cause
  -- this index in an array of so many elements
  Indexing : (length : ℕ) (index : ℤ) → Cause
  -- one activation more, where no more may be made
  Activating : Cause
  -- a turn, where none is left
  Turning : Cause

-- a cause that leads to the trap of this number
abbrev pub Explains : Cause → ℕ → Type 0
Explains (Operating operator left right) k = computed operator left right ≡ Traps k
Explains (Negating operand) k = negated operand ≡ Traps k
Explains (Indexing length index) k = within length index ≡ Traps k
Explains Activating k = k ≡ too_many_activations
Explains Turning k = k ≡ no_turn_left

-- the number of the trap; the number of the procedure, in the order of headings, in which it comes, or none for the body that runs;
-- the path from the statements of that to the operation; and what could not be done
pub record Site : Type 0 where
  pub number : ℕ
  pub procedure : Option ℕ
  pub path : List ℕ
  pub cause : Cause

-- an operation of this part
abbrev pub here : (part number : ℕ) → Cause → Site
here part number cause = record { number = number; procedure = None; path = part ∷ []; cause = cause }

-- the path from one construct further out; within a procedure that was called it leads from the statements of that
abbrev pub path_from : Option ℕ → (part : ℕ) → List ℕ → List ℕ
path_from None part path = part ∷ path
path_from (Some number) part path = path

abbrev pub inside : (part : ℕ) → Site → Site
inside part site = record site { path = path_from site.procedure part site.path }

-- the innermost procedure
abbrev pub innermost : Option ℕ → ℕ → ℕ
innermost None number = number
innermost (Some inner) number = inner

abbrev pub called : (number : ℕ) → Site → Site
called number site = record site { procedure = Some (innermost site.procedure number) }

-- what evaluation or a run gives: something, or a trap and where it comes from
pub data Sited (A : Type 0) : Type 0 where
  Yields : A → Sited A
  TrapsAt : Site → Sited A

-- goes on with what was given, or traps
abbrev pub ◌>>=◌ : {A B : Type 0} → Sited A → (A → Sited B) → Sited B
◌>>=◌ (Yields a) go = go a
◌>>=◌ (TrapsAt site) go = TrapsAt site

-- what an operation of this part gives
abbrev pub at : {A : Type 0} → (part : ℕ) → Cause → Evaluated A → Sited A
at part cause (Gives a) = Yields a
at part cause (Traps k) = TrapsAt (here part k cause)

-- what a part gives, seen from the construct around it
abbrev pub of_part : {A : Type 0} → (part : ℕ) → Sited A → Sited A
of_part part (Yields a) = Yields a
of_part part (TrapsAt site) = TrapsAt (inside part site)

-- what a procedure that was called gives
abbrev pub of_procedure : {A : Type 0} → (number : ℕ) → Sited A → Sited A
of_procedure number (Yields a) = Yields a
of_procedure number (TrapsAt site) = TrapsAt (called number site)

-- the site of a trap
abbrev pub site_of : {A : Type 0} → Sited A → Option Site
site_of (Yields a) = None
site_of (TrapsAt site) = Some site

-- the same without the site
abbrev pub evaluated : {A : Type 0} → Sited A → Evaluated A
evaluated (Yields a) = Gives a
evaluated (TrapsAt site) = Traps site.number

abbrev pub outcome : {Store : Type 0} → Sited (ℕ × Store) → Outcome Store
outcome (Yields (turns, store)) = Done turns store
outcome (TrapsAt site) = Trap site.number
