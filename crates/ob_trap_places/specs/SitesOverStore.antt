-- The meaning over a store, where each trap says where it comes from. Without the sites it is the meaning.
use Rattle.std.specs.Prelude.{ℕ, zero, suc, List, [], ◌∷◌, slice_get, if◌then◌else◌, Option, Some, None}
use Rattle.ob_interface.specs.declared.scalar.Scalar.{Scalar}
use Rattle.ob_typing.specs.declared.operator.BinaryOperator.{BinaryOperator}
use Rattle.ob_typing.specs.Program.{Expression, Literal, ValueOf, Negated, Complement, Computed, Compared, Operations, no_operation, operation}
use Rattle.ob_typing.specs.Program.{Designator, Designated, Selectors, no_selector, field_of, element_of, Actual, ByValue, ByPlace, Procedure, Program}
use Rattle.ob_typing.specs.Program.{Statement, Assign, Call, If, While, Repeat, Statements, no_statement, statement, Branches, no_branch, otherwise, branch}
use Rattle.ob_typing.specs.Arithmetic.{number_of, computed, decides, negated, complement, compared, truth_of, too_many_activations, no_turn_left}
use Rattle.ob_meaning.specs.OverStore.{Stores, within}
use Rattle.ob_trap_places.specs.Site.{Operating, Negating, Indexing, Activating, Turning, here, Sited, Yields, TrapsAt, ◌>>=◌, at, of_part, of_procedure}

-- what an operator gives behind a value, with the operand behind it: the value itself where it decides
abbrev pub applied : BinaryOperator → Scalar → Sited Scalar → Sited Scalar
applied o v right =
    if decides o v
    then Yields v
    else ◌>>=◌ (of_part 1 right) (λ w. at 0 (Operating o v w) (computed o v w))

-- an index, in its brackets, of an array of so many elements
abbrev pub indexed : (length : ℕ) → Sited Scalar → Sited ℕ
indexed length index =
    ◌>>=◌ (of_part 1 index) (λ x. at 0 (Indexing length (number_of x)) (within length (number_of x)))

-- takes one turn; where none is left it is trap 5
abbrev pub with_turn : {A : Type 0} → (ℕ → Sited A) → ℕ → Sited A
with_turn go zero = TrapsAt (here 0 no_turn_left Turning)
with_turn go (suc turns) = go turns

module _ (stores : Stores) where
  open stores use {Store, Place, Step, Held, field_step, element_step, place_of_slot, further_in, scalar_at, copied, shared, stored, entered, departed}

  module _ (store : Store) where
    abbrev mutual
      pub value_of : Expression → Sited Scalar
      value_of (Literal s) = Yields s
      value_of (ValueOf type variable) = do
        place ← place_of variable
        Yields (scalar_at store place)
      value_of (Negated operand) = do
        x ← of_part 1 (value_of operand)
        at 0 (Negating x) (negated x)
      value_of (Complement operand) = do
        x ← of_part 1 (value_of operand)
        Yields (complement x)
      value_of (Computed first rest) = do
        x ← of_part 0 (value_of first)
        value_behind 1 x rest
      value_of (Compared relation left right) = do
        x ← of_part 0 (value_of left)
        y ← of_part 2 (value_of right)
        Yields (compared relation x y)

      -- from a value, through the operators behind it, of which the first is this part
      pub value_behind : ℕ → Scalar → Operations → Sited Scalar
      value_behind n x no_operation = Yields x
      value_behind n x (operation operator operand rest) = do
        y ← of_part n (applied operator x (value_of operand))
        value_behind (suc n) y rest

      pub place_of : Designator → Sited Place
      place_of (Designated slot selectors) = do
        path ← path_of 0 selectors
        Yields (further_in (place_of_slot store slot) path)

      -- through selectors, of which the first is this part
      pub path_of : ℕ → Selectors → Sited (List Step)
      path_of n no_selector = Yields []
      path_of n (field_of position name rest) = do
        path ← path_of (suc n) rest
        Yields (field_step position name ∷ path)
      path_of n (element_of length index rest) = do
        i ← of_part n (indexed length (value_of index))
        path ← path_of (suc n) rest
        Yields (element_step i ∷ path)

    abbrev pub handed : Actual → Sited Held
    handed (ByValue expression) = do
      v ← value_of expression
      Yields (copied v)
    handed (ByPlace variable) = do
      place ← place_of variable
      Yields (shared place)

    -- what actuals hand over, of which the first is this part
    abbrev pub all_handed : ℕ → List Actual → Sited (List Held)
    all_handed n [] = Yields []
    all_handed n (actual ∷ actuals) = do
      first ← of_part n (handed actual)
      rest ← all_handed (suc n) actuals
      Yields (first ∷ rest)

  -- from the turns left and a store to both behind a run
  abbrev pub Run : Type 0
  Run = ℕ → Store → Sited (ℕ × Store)

  abbrev pub Calls : Type 0
  Calls = ℕ → List Held → Run

  abbrev pub done : Run
  done turns store = Yields (turns, store)

  -- goes on where a run is done
  abbrev pub then_run : Sited (ℕ × Store) → Run → Sited (ℕ × Store)
  then_run (Yields (turns, store)) run = run turns store
  then_run (TrapsAt site) run = TrapsAt site

  abbrev pub run_part : ℕ → Run → Run
  run_part part run turns store = of_part part (run turns store)

  -- a loop: while the condition holds, a turn for its body and then the loop again
  abbrev pub loop_once : Expression → Run → Run → Run
  loop_once condition body again turns store =
      ◌>>=◌ (of_part 1 (value_of store condition))
      (λ v. (if truth_of v
      then (λ t s. with_turn (λ left. then_run (of_part 2 (body left s)) again) t)
      else done) turns store)

  abbrev pub loop : ℕ → Expression → Run → Run
  loop zero condition body = loop_once condition body (λ turns store. TrapsAt (here 0 no_turn_left Turning))
  loop (suc n) condition body = loop_once condition body (loop n condition body)

  -- a loop that tests behind its body
  abbrev pub rounds_once : Run → Expression → Run → Run
  rounds_once body condition again turns store =
      with_turn (λ left. then_run (of_part 1 (body left store))
      (λ t s. ◌>>=◌ (of_part 2 (value_of s condition)) (λ v. (if truth_of v then done else again) t s))) turns

  abbrev pub rounds : ℕ → Run → Expression → Run
  rounds zero body condition turns store = TrapsAt (here 0 no_turn_left Turning)
  rounds (suc n) body condition turns store = rounds_once body condition (rounds n body condition) turns store

  module _ (call : Calls) where
    abbrev mutual
      pub meaning : Statement → Run
      meaning (Assign target expression) turns store =
          ◌>>=◌ (of_part 0 (place_of store target)) (λ place.
          ◌>>=◌ (of_part 1 (value_of store expression)) (λ v. Yields (turns, stored store place v)))
      meaning (Call procedure actuals) turns store =
          ◌>>=◌ (all_handed store 1 actuals) (λ handed. call procedure handed turns store)
      meaning (If branches) turns store = meaning_of_branches 0 branches turns store
      meaning (While condition body) turns store = loop turns condition (meaning_of_all 0 body) turns store
      meaning (Repeat body condition) turns store = rounds turns (meaning_of_all 0 body) condition turns store

      -- of statements, of which the first is this part
      pub meaning_of_all : ℕ → Statements → Run
      meaning_of_all n no_statement turns store = Yields (turns, store)
      meaning_of_all n (statement first rest) turns store =
          then_run (of_part n (meaning first turns store)) (meaning_of_all (suc n) rest)

      -- of branches, of which the first is this part
      pub meaning_of_branches : ℕ → Branches → Run
      meaning_of_branches n no_branch turns store = Yields (turns, store)
      meaning_of_branches n (otherwise statements) turns store = of_part n (meaning_of_all 0 statements turns store)
      meaning_of_branches n (branch condition statements rest) turns store =
          ◌>>=◌ (of_part n (of_part 0 (value_of store condition))) (λ v.
          (if truth_of v then run_part n (run_part 1 (meaning_of_all 0 statements)) else meaning_of_branches (suc n) rest) turns store)

  -- the store without its last activation
  abbrev pub left : Sited (ℕ × Store) → Sited (ℕ × Store)
  left (Yields (turns, store)) = Yields (turns, departed store)
  left (TrapsAt site) = TrapsAt site

  abbrev pub activated : Calls → Option Procedure → List Held → Run
  activated call None handed turns store = Yields (turns, store)
  activated call (Some p) handed turns store =
      left (meaning_of_all call 0 p.body turns (entered store p handed))

  -- a call in the text: trap 4 and trap 5 come from the call itself, others from within the procedure
  abbrev pub calls : Program → ℕ → Calls
  calls program zero number handed turns store = TrapsAt (here 0 too_many_activations Activating)
  calls program (suc more) number handed turns store =
      with_turn (λ rest. of_procedure number (activated (calls program more) (slice_get program.procedures number) handed rest store)) turns
