-- Calls that change no variable of the module, and the rule on texts that tells some of them.
use Rattle.std.specs.Prelude.{◌≡◌, ℕ, Bool, true, List, length, slice_get, Some}
use Rattle.std.specs.List.{AllByRecursion}
use Rattle.ob_interface.specs.declared.scalar.Scalar.{Scalar}
use Rattle.ob_interface.specs.Call.{Reply}
use Rattle.ob_typing.specs.Program.{Own, Designator, Designated, Actual, ByValue, ByPlace, Statement, Assign, Call, If, While, Repeat, Statements, no_statement, statement, Branches, no_branch, otherwise, branch, Procedure, Program, exports}
use Rattle.ob_meaning.specs.ByPositionStore.{Activation}
use Rattle.ob_meaning.specs.ByPositionObject.{effect}

-- each call of the export, with any budget, any arguments and from any state, leaves the state that it found
abbrev pub IsReadOnly : Program → (export : ℕ) → Type 0
IsReadOnly program export =
    (budget : ℕ) (arguments : List Scalar) (before after : Activation) (reply : Reply) →
    effect program (record { export = export; arguments = arguments }) budget before ≡ record { state = after; reply = reply } → before ≡ after

-- for each export whether it is known to be read-only; where it is not known, nothing is said
pub record TellsReadOnly (program : Program) (told : List Bool) : Type 0 where
  pub each : length told ≡ length (exports program)
  pub true_of : (export : ℕ) → slice_get told export ≡ Some true → IsReadOnly program export

-- a parameter or a variable of the procedure, or a part of it
abbrev pub IsOwn : Designator → Type 0
IsOwn (Designated slot selectors) = slot.owner ≡ Own

-- a value, or the place of what is the procedure's own
abbrev pub HandsOwn : Actual → Type 0
HandsOwn (ByValue expression) = Unit {0}
HandsOwn (ByPlace variable) = IsOwn variable

-- The rule, where procedures with these numbers may be called: nothing of the module's variables is assigned to, and
-- nothing of them is handed over to a VAR parameter. What a VAR parameter stands for is then a result of the call from
-- outside or a variable of a procedure, so an assignment to it changes no variable of the module either.
module _ (is_quiet : ℕ → Bool) where
  abbrev mutual
    pub SparesModule : Statement → Type 0
    SparesModule (Assign target expression) = IsOwn target
    SparesModule (Call procedure actuals) = (is_quiet procedure ≡ true) × AllByRecursion HandsOwn actuals
    SparesModule (If branches) = BranchesSpareModule branches
    SparesModule (While condition body) = AllSpareModule body
    SparesModule (Repeat body condition) = AllSpareModule body

    pub AllSpareModule : Statements → Type 0
    AllSpareModule no_statement = Unit {0}
    AllSpareModule (statement first rest) = SparesModule first × AllSpareModule rest

    pub BranchesSpareModule : Branches → Type 0
    BranchesSpareModule no_branch = Unit {0}
    BranchesSpareModule (otherwise statements) = AllSpareModule statements
    BranchesSpareModule (branch condition statements rest) = AllSpareModule statements × BranchesSpareModule rest

-- a set of procedures, by their numbers, that keep the rule and call only each other
abbrev pub KeepTheRule : Program → (ℕ → Bool) → Type 0
KeepTheRule program is_quiet =
    (number : ℕ) (p : Procedure) → is_quiet number ≡ true → slice_get program.procedures number ≡ Some p → AllSpareModule is_quiet p.body
