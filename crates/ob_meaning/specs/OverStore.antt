-- What expressions, designators, statements, loops and calls mean over a store, whether its variables go by their names or by
-- their positions. Evaluation goes left to right. A statement with so many turns left is done, and leaves a store and the turns
-- that are left then, or it traps. A turn is one execution of the statements of a WHILE or a REPEAT, or one activation made by a
-- call in the text; where none is left, it is trap 5.
use Rattle.std.specs.Prelude.{ℕ, ℤ, pos, negsuc, nat_lt, zero, suc, List, [], ◌∷◌, slice_get, if◌then◌else◌, Option, Some, None}
use Rattle.ob_interface.specs.declared.scalar.Scalar.{Scalar}
use Rattle.ob_typing.specs.Program.{Name, Slot, Expression, Literal, ValueOf, Negated, Complement, Computed, Compared, Operations, no_operation, operation, Designator, Designated, Selectors, no_selector, field_of, element_of, Actual, ByValue, ByPlace, Statement, Assign, Call, If, While, Repeat, Statements, no_statement, statement, Branches, no_branch, otherwise, branch, Procedure, Program}
use Rattle.ob_typing.specs.Arithmetic.{Evaluated, Gives, Traps, ◌>>=◌, number_of, applied, negated, complement, compared, truth_of, too_many_activations, outside_array, no_turn_left}

-- an index that is within an array of this length, else trap 2
abbrev pub within : ℕ → ℤ → Evaluated ℕ
within length (pos i) = if nat_lt i length then Gives i else Traps outside_array
within length (negsuc i) = Traps outside_array

-- stores of activations, and what can be done with them; the last activation is running
pub record Stores : Type 1 where
  pub Store : Type 0
  -- a variable or a part of it
  pub Place : Type 0
  -- from a value to a field or an element of it
  pub Step : Type 0
  -- what a call hands over to a parameter
  pub Held : Type 0
  -- to a field of this position and name, and to the element of an index
  pub field_step : (position : ℕ) (name : Name) → Step
  pub element_step : (index : ℕ) → Step
  -- the place that a variable stands for, of the module or the running activation
  pub place_of_slot : Store → Slot → Place
  -- a place further in
  pub further_in : Place → List Step → Place
  pub scalar_at : Store → Place → Scalar
  -- a value of its own, and a place of others
  pub copied : Scalar → Held
  pub shared : Place → Held
  -- the store with a scalar at a place
  pub stored : Store → Place → Scalar → Store
  -- one activation more: of a procedure, with what was handed over
  pub entered : Store → Procedure → List Held → Store
  -- the last activation is gone
  pub departed : Store → Store

pub data Outcome (Store : Type 0) : Type 0 where
  Done : (turns : ℕ) (store : Store) → Outcome Store
  Trap : (number : ℕ) → Outcome Store

-- goes on with what was evaluated, or traps
abbrev pub after : {A Store : Type 0} → Evaluated A → (A → Outcome Store) → Outcome Store
after (Gives a) go = go a
after (Traps k) go = Trap k

-- goes on where a run is done
abbrev pub then_run : {Store : Type 0} → Outcome Store → (ℕ → Store → Outcome Store) → Outcome Store
then_run (Done turns store) run = run turns store
then_run (Trap k) run = Trap k

-- takes one turn; where none is left it is trap 5
abbrev pub with_turn : {Store : Type 0} → (ℕ → Outcome Store) → ℕ → Outcome Store
with_turn go zero = Trap no_turn_left
with_turn go (suc turns) = go turns

module _ (stores : Stores) where
  open stores use {Store, Place, Step, Held, field_step, element_step, place_of_slot, further_in, scalar_at, copied, shared, stored, entered, departed}

  module _ (store : Store) where
    abbrev mutual
      pub value_of : Expression → Evaluated Scalar
      value_of (Literal s) = Gives s
      value_of (ValueOf type variable) = do
        place ← place_of variable
        Gives (scalar_at store place)
      value_of (Negated operand) = do
        x ← value_of operand
        negated x
      value_of (Complement operand) = do
        x ← value_of operand
        Gives (complement x)
      value_of (Computed first rest) = do
        x ← value_of first
        value_behind x rest
      value_of (Compared relation left right) = do
        x ← value_of left
        y ← value_of right
        Gives (compared relation x y)

      -- from a value, through the operators behind it; an operand is evaluated only where its operator does not decide
      pub value_behind : Scalar → Operations → Evaluated Scalar
      value_behind x no_operation = Gives x
      value_behind x (operation operator operand rest) = do
        y ← applied operator x (value_of operand)
        value_behind y rest

      pub place_of : Designator → Evaluated Place
      place_of (Designated slot selectors) = do
        path ← path_of selectors
        Gives (further_in (place_of_slot store slot) path)

      -- in `a[i][j]` i is tested against its length before j is evaluated
      pub path_of : Selectors → Evaluated (List Step)
      path_of no_selector = Gives []
      path_of (field_of position name rest) = do
        path ← path_of rest
        Gives (field_step position name ∷ path)
      path_of (element_of length index rest) = do
        x ← value_of index
        i ← within length (number_of x)
        path ← path_of rest
        Gives (element_step i ∷ path)

    -- what an actual hands over: a copy of a value, or a place
    abbrev pub handed : Actual → Evaluated Held
    handed (ByValue expression) = do
      v ← value_of expression
      Gives (copied v)
    handed (ByPlace variable) = do
      place ← place_of variable
      Gives (shared place)

    abbrev pub all_handed : List Actual → Evaluated (List Held)
    all_handed [] = Gives []
    all_handed (actual ∷ actuals) = do
      first ← handed actual
      rest ← all_handed actuals
      Gives (first ∷ rest)

  -- from the turns left and a store
  abbrev pub Run : Type 0
  Run = ℕ → Store → Outcome Store

  -- what a call of a procedure does, by its number and what the actuals handed over
  abbrev pub Calls : Type 0
  Calls = ℕ → List Held → Run

  -- a loop: while the condition holds, a turn for its body and then the loop again; the last test takes no turn
  abbrev pub loop_once : Expression → Run → Run → Run
  loop_once condition body again turns store =
      after (value_of store condition)
      (λ v. (if truth_of v
      then (λ t s. with_turn (λ left. then_run (body left s) again) t)
      else Done) turns store)

  -- the same with at most so many turns to take
  abbrev pub loop : ℕ → Expression → Run → Run
  loop zero condition body = loop_once condition body (λ turns store. Trap no_turn_left)
  loop (suc n) condition body = loop_once condition body (loop n condition body)

  -- a loop that tests behind its body: a turn for the body, then the condition; where it does not hold, the loop again
  abbrev pub rounds_once : Run → Expression → Run → Run
  rounds_once body condition again turns store =
      with_turn (λ left. then_run (body left store)
      (λ t s. after (value_of s condition) (λ v. (if truth_of v then Done else again) t s))) turns

  -- the same with at most so many turns to take
  abbrev pub rounds : ℕ → Run → Expression → Run
  rounds zero body condition turns store = Trap no_turn_left
  rounds (suc n) body condition turns store = rounds_once body condition (rounds n body condition) turns store

  module _ (call : Calls) where
    abbrev mutual
      pub meaning : Statement → Run
      -- the target's place, then the expression, then the store
      meaning (Assign target expression) turns store =
          after (place_of store target) (λ place.
          after (value_of store expression) (λ v. Done turns (stored store place v)))
      meaning (Call procedure actuals) turns store =
          after (all_handed store actuals) (λ handed. call procedure handed turns store)
      meaning (If branches) turns store = meaning_of_branches branches turns store
      meaning (While condition body) turns store = loop turns condition (meaning_of_all body) turns store
      meaning (Repeat body condition) turns store = rounds turns (meaning_of_all body) condition turns store

      pub meaning_of_all : Statements → Run
      meaning_of_all no_statement turns store = Done turns store
      meaning_of_all (statement first rest) turns store =
          then_run (meaning first turns store) (meaning_of_all rest)

      pub meaning_of_branches : Branches → Run
      meaning_of_branches no_branch turns store = Done turns store
      meaning_of_branches (otherwise statements) turns store = meaning_of_all statements turns store
      meaning_of_branches (branch condition statements rest) turns store =
          after (value_of store condition) (λ v.
          (if truth_of v then meaning_of_all statements else meaning_of_branches rest) turns store)

  -- the store without its last activation
  abbrev pub left : Outcome Store → Outcome Store
  left (Done turns store) = Done turns (departed store)
  left (Trap k) = Trap k

  -- the statements of a procedure in an activation of it, and then the activation is gone
  abbrev pub activated : Calls → Option Procedure → List Held → Run
  activated call None handed turns store = Done turns store
  activated call (Some p) handed turns store =
      left (meaning_of_all call p.body turns (entered store p handed))

  -- a call in the text where so many more activations may be made: trap 4 where none may,
  -- whatever turns are left, else a turn and the activation
  abbrev pub calls : Program → ℕ → Calls
  calls program zero number handed turns store = Trap too_many_activations
  calls program (suc more) number handed turns store =
      with_turn (λ rest. activated (calls program more) (slice_get program.procedures number) handed rest store) turns
