-- What is owed of expressions, designators, selectors and actuals: their code leaves what the source gives, or traps as it does.
use Rattle.std.specs.Prelude.{◌≡◌, ℕ, ◌+◌, ◌≤◌, ℤ, pos, List, [], ◌∷◌, ◌++◌, length, slice_get, Some}
use Rattle.ob_interface.specs.declared.scalar.Scalar.{Scalar}
use Rattle.ob_interface.specs.declared.scalar.ScalarType.{ScalarType}
use Rattle.ob_typing.specs.Program.{DataType, Expression, Operations, Designator, Selectors, Actual, Procedure, Program}
use Rattle.ob_typing.specs.Arithmetic.{Evaluated, Gives, Traps}
use Rattle.ob_meaning.specs.ByPositionStore.{Place, Store, further_in}
use Rattle.ob_meaning.specs.ByPositionEvaluation.{value_of, value_behind, place_of, path_of, all_handed}
use Rattle.ob_code_scheme.specs.Types.{Scope, extent, total, address, variables_scope, IsScalarOf, IsPlace, FitsHanded, Fits}
use Rattle.ob_code_scheme.specs.Temporaries.{temporaries, operations_temporaries, designator_temporaries, selectors_temporaries, actuals_temporaries, stack_words}
use Rattle.ob_code_scheme.specs.WellFormed.{IsOf, AreOf, Designates, Selects, AreActuals, IsWellFormed}
use Rattle.ob_code_scheme.specs.Layout.{word}
use Rattle.ob_code_words.specs.declared.instr.Instr.{Instr}
use Rattle.ob_code_machine.specs.declared.saved.Saved.{Saved}
use Rattle.ob_code_machine.specs.Machine.{Configuration}
use Rattle.ob_code_scheme.specs.Scheme.{size, operations_size, designator_size, selectors_size, actuals_size, entry_of, code_at, operations_at, designator_at, selectors_at, actuals_at, procedure_at, HasAt}
use Rattle.ob_code_scheme.specs.Image.{Scopes, all, position_words, image, Leads, Stops}

-- ---- what is fixed

-- each procedure's code stands at its entry
abbrev pub Stand : Program → List Instr → Type 0
Stand program code =
    (i : ℕ) (p : Procedure) → slice_get program.procedures i ≡ Some p →
    HasAt code (entry_of program.procedures i) (procedure_at (variables_scope program.variables) (entry_of program.procedures) (entry_of program.procedures i) p)

-- a well-formed program and its code, and where it is: the scopes below the running one but the module's, the running one, and the
-- pairs that calls have saved. The stack has the layout's words
pub record Setting : Type 0 where
  pub program : Program
  pub code : List Instr
  pub fine : IsWellFormed program
  pub stand : Stand program code
  pub lower : List Scope
  pub own : Scope
  pub saved : List Saved

abbrev pub globals_of : Setting → Scope
globals_of at = variables_scope at.program.variables

abbrev pub scopes_of : Setting → Scopes
scopes_of at = record { globals = variables_scope at.program.variables; lower = at.lower; own = at.own }

abbrev pub all_of : Setting → List Scope
all_of at = all (scopes_of at)

abbrev pub reserve_of : Setting → ℕ
reserve_of at = stack_words at.program.procedures

-- the machine there, on the words of a store
abbrev pub here : Setting → Store → (turns pc : ℕ) → List ℤ → Configuration
here at store turns pc temps = image (scopes_of at) at.saved store turns pc temps

-- above the positions and these temporaries there is room for so many words
abbrev pub HasRoom : Setting → List ℤ → ℕ → Type 0
HasRoom at temps n = total at.lower + extent at.own + length temps + n ≤ reserve_of at

-- ---- what evaluation comes to

module _ (at : Setting) (store : Store) (turns size a : ℕ) (before : List ℤ) {A : Type 0} (Is : A → Type 0) (behind : A → List ℤ) where
  -- what the source gives is of its kind, and by so many instructions at most the temporaries become those behind it, with the next
  -- instruction behind the code; or the machine stops with the same trap
  abbrev pub Evaluates : Evaluated A → Type 0
  Evaluates (Gives x) =
      Is x × Leads at.code (reserve_of at) size (here at store turns a before) (here at store turns (a + size) (behind x))
  Evaluates (Traps k) = Stops at.code (reserve_of at) size (here at store turns a before) k

-- the value of an expression: its word comes on top
abbrev pub ValueRuns : Type 0
ValueRuns =
    (at : Setting) (e : Expression) (t : ScalarType) (store : Store) (turns a : ℕ) (temps : List ℤ) →
    Fits (all_of at) store → IsOf (globals_of at) at.own e t →
    HasAt at.code a (code_at (globals_of at) at.own a e) → HasRoom at temps (temporaries e) →
    Evaluates at store turns (size at.own e) a temps (λ x. IsScalarOf t x) (λ x. temps ++ word x ∷ []) (value_of store e)

-- operators and their operands, behind the value that lies on top: it gives way to the value of all
abbrev pub OperationsRun : Type 0
OperationsRun =
    (at : Setting) (rest : Operations) (t : ScalarType) (first : Scalar) (store : Store) (turns a : ℕ) (temps : List ℤ) →
    Fits (all_of at) store → IsScalarOf t first → AreOf (globals_of at) at.own rest t →
    HasAt at.code a (operations_at (globals_of at) at.own a rest) → HasRoom at temps (operations_temporaries rest) →
    Evaluates at store turns (operations_size at.own rest) a (temps ++ word first ∷ []) (λ x. IsScalarOf t x) (λ x. temps ++ word x ∷ []) (value_behind store first rest)

-- the place of a designator: its address comes on top
abbrev pub PlaceRuns : Type 0
PlaceRuns =
    (at : Setting) (d : Designator) (type : DataType) (store : Store) (turns a : ℕ) (temps : List ℤ) →
    Fits (all_of at) store → Designates (globals_of at) at.own d type →
    HasAt at.code a (designator_at (globals_of at) at.own a d) → HasRoom at temps (designator_temporaries d) →
    Evaluates at store turns (designator_size at.own d) a temps (λ place. IsPlace (all_of at) place type)
    (λ place. temps ++ pos (address (all_of at) place) ∷ []) (place_of store d)

-- selectors, behind the address of a place: it gives way to the address of the part
abbrev pub SelectorsRun : Type 0
SelectorsRun =
    (at : Setting) (selectors : Selectors) (place : Place) (from to : DataType) (store : Store) (turns a : ℕ) (temps : List ℤ) →
    Fits (all_of at) store → IsPlace (all_of at) place from → Selects (globals_of at) at.own from selectors to →
    HasAt at.code a (selectors_at (globals_of at) at.own a from selectors) → HasRoom at temps (selectors_temporaries selectors) →
    Evaluates at store turns (selectors_size at.own selectors) a (temps ++ pos (address (all_of at) place) ∷ [])
    (λ path. IsPlace (all_of at) (further_in place path) to)
    (λ path. temps ++ pos (address (all_of at) (further_in place path)) ∷ []) (path_of store selectors)

-- actuals for the parameters of a scope: what they hand over fits it, and its words come on top
abbrev pub ActualsRun : Type 0
ActualsRun =
    (at : Setting) (actuals : List Actual) (parameters : Scope) (store : Store) (turns a : ℕ) (temps : List ℤ) →
    Fits (all_of at) store → AreActuals (globals_of at) at.own actuals parameters →
    HasAt at.code a (actuals_at (globals_of at) at.own a actuals) → HasRoom at temps (actuals_temporaries actuals) →
    Evaluates at store turns (actuals_size at.own actuals) a temps (λ handed. FitsHanded (all_of at) parameters handed)
    (λ handed. temps ++ position_words (all_of at) handed) (all_handed store actuals)

-- ---- all of it

pub record EvaluationRuns : Type 0 where
  pub value_runs : ValueRuns
  pub operations_run : OperationsRun
  pub place_runs : PlaceRuns
  pub selectors_run : SelectorsRun
  pub actuals_run : ActualsRun
