-- What is owed of statements, calls in the text and calls from outside.
use Rattle.std.specs.Prelude.{◌≡◌, ℕ, suc, ◌+◌, ◌-◌, ◌*◌, ◌≤◌, true, List, [], ◌∷◌, ◌++◌, filter, length, slice_get, Some, MatchBool}
use Rattle.ob_interface.specs.declared.scalar.Scalar.{Scalar}
use Rattle.ob_typing.specs.Program.{DataType, Simple, Statement, Statements, Branches, Parameter, Procedure, Program}
use Rattle.ob_meaning.specs.ByPositionStore.{Held, Activation, Store, activation_at}
use Rattle.ob_meaning.specs.ByPositionStatements.{Outcome, Done, Trap, Calls, meaning, meaning_of_all, meaning_of_branches, activation_of, calls}
use Rattle.ob_meaning.specs.ByPositionObject.{results_begun, outside_handed, values_of_results}
use Rattle.ob_meaning.specs.ByNameObject.{first_argument, other_arguments, results_position, most_activations}
use Rattle.ob_code_scheme.specs.Types.{extent, total, parameters_scope, frame_scope, IsScalarOf, FitsHanded, Fits, IsStateOf}
use Rattle.ob_code_scheme.specs.Temporaries.{statement_temporaries, statements_temporaries, branches_temporaries, most_temporaries, largest_frame, stack_words}
use Rattle.ob_code_scheme.specs.WellFormed.{IsFine, AreFine, AreFineBranches, IsWellFormed}
use Rattle.ob_code_scheme.specs.Layout.{encoded}
use Rattle.ob_code_words.specs.declared.instr.Instr.{Instr}
use Rattle.ob_code_words.specs.declared.instr.Instr.TheVariants.{Call}
use Rattle.ob_code_machine.specs.Machine.{Configuration, Returned, exec}
use Rattle.ob_code_scheme.specs.Scheme.{statement_size, statements_size, branches_size, entry_of, statement_at, statements_at, branches_at, HasAt}
use Rattle.ob_code_scheme.specs.Image.{position_words, Stops, Runs}
use Rattle.ob_code_scheme.specs.Correct.{beginning, words_of}
use Rattle.ob_code_scheme.specs.Running.{Stand, Setting, globals_of, scopes_of, all_of, reserve_of, here, HasRoom}

-- ---- room

-- so many activations may still be made; and the positions take no more than 8 results and a largest frame for each activation
pub record Low (at : Setting) (more : ℕ) : Type 0 where
  pub depth : suc (length at.saved) + more ≡ most_activations
  pub words : total at.lower + extent at.own ≤ 8 + suc (length at.saved) * largest_frame at.program.procedures

-- so there is room for the temporaries of each procedure
abbrev pub LowHasRoom : Type 0
LowHasRoom =
    (at : Setting) (more : ℕ) → Low at more → HasRoom at [] (most_temporaries at.program.procedures)

-- the setting of a procedure that a CALL at place a began, from its FRAME on
abbrev pub inside : Setting → Procedure → ℕ → Setting
inside at p a = record {
  program = at.program;
  code = at.code;
  fine = at.fine;
  stand = at.stand;
  lower = at.lower ++ at.own ∷ [];
  own = frame_scope p;
  saved = record { pc = a + 1; fp = total at.lower } ∷ at.saved;
}

-- it is low again, with one activation less to be made
abbrev pub StaysLow : Type 0
StaysLow =
    (at : Setting) (more i a : ℕ) (p : Procedure) → slice_get at.program.procedures i ≡ Some p → Low at (suc more) → Low (inside at p a) more

-- ---- calls in the text

-- of calls of this meaning: from the CALL, on what was handed over, to the place behind it. CALL is the one instruction of its own;
-- FRAME, the statements and RET are paid by the turn
abbrev pub CallRuns : Setting → Calls → Type 0
CallRuns at call =
    (number : ℕ) (p : Procedure) (handed : List Held) (n : ℕ) (store : Store) (a : ℕ) →
    slice_get at.program.procedures number ≡ Some p → Fits (all_of at) store → FitsHanded (all_of at) (parameters_scope p.parameters) handed →
    slice_get at.code a ≡ Some (Call (entry_of at.program.procedures number) (length p.parameters)) →
    Runs at.code (reserve_of at) (scopes_of at) at.saved 1 n (here at store n a (position_words (all_of at) handed)) (a + 1) (call number handed n store)

-- where so many more activations may be made
abbrev pub CallsRun : Type 0
CallsRun = (at : Setting) (more : ℕ) → Low at more → CallRuns at (calls at.program more)

-- ---- statements, where calls of this meaning run

abbrev pub StatementRuns : Type 0
StatementRuns =
    (at : Setting) (call : Calls) → CallRuns at call →
    (s : Statement) (n : ℕ) (store : Store) (a : ℕ) →
    Fits (all_of at) store → IsFine (globals_of at) at.own at.program.procedures s →
    HasAt at.code a (statement_at (globals_of at) at.own (entry_of at.program.procedures) a s) → HasRoom at [] (statement_temporaries s) →
    Runs at.code (reserve_of at) (scopes_of at) at.saved (statement_size at.own s) n (here at store n a []) (a + statement_size at.own s) (meaning call s n store)

abbrev pub StatementsRun : Type 0
StatementsRun =
    (at : Setting) (call : Calls) → CallRuns at call →
    (ss : Statements) (n : ℕ) (store : Store) (a : ℕ) →
    Fits (all_of at) store → AreFine (globals_of at) at.own at.program.procedures ss →
    HasAt at.code a (statements_at (globals_of at) at.own (entry_of at.program.procedures) a ss) → HasRoom at [] (statements_temporaries ss) →
    Runs at.code (reserve_of at) (scopes_of at) at.saved (statements_size at.own ss) n (here at store n a []) (a + statements_size at.own ss) (meaning_of_all call ss n store)

abbrev pub BranchesRun : Type 0
BranchesRun =
    (at : Setting) (call : Calls) → CallRuns at call →
    (branches : Branches) (n : ℕ) (store : Store) (a : ℕ) →
    Fits (all_of at) store → AreFineBranches (globals_of at) at.own at.program.procedures branches →
    HasAt at.code a (branches_at (globals_of at) at.own (entry_of at.program.procedures) a branches) → HasRoom at [] (branches_temporaries branches) →
    Runs at.code (reserve_of at) (scopes_of at) at.saved (branches_size at.own branches) n (here at store n a []) (a + branches_size at.own branches) (meaning_of_branches call branches n store)

-- ---- calls and replies that fit, one parameter after the other

-- a scalar of a type that is not structured
abbrev pub IsScalarIn : DataType → Scalar → Type 0
IsScalarIn (Simple type) s = IsScalarOf type s
IsScalarIn _ s = ⊥

-- an argument for each value parameter, of its type
abbrev pub AreArgumentsOf : List Parameter → List Scalar → Type 0
AreArgumentsOf [] arguments = arguments ≡ []
AreArgumentsOf (p ∷ parameters) arguments =
    MatchBool p.is_var (AreArgumentsOf parameters arguments) (IsScalarIn p.type (first_argument arguments) × AreArgumentsOf parameters (other_arguments arguments))

-- a value for each of these parameters, of its type
abbrev pub AreValuesOf : List Parameter → List Scalar → Type 0
AreValuesOf [] [] = Unit {0}
AreValuesOf [] (s ∷ values) = ⊥
AreValuesOf (p ∷ parameters) [] = ⊥
AreValuesOf (p ∷ parameters) (s ∷ values) = IsScalarIn p.type s × AreValuesOf parameters values

-- ---- calls from outside

module _ (program : Program) (code : List Instr) (p : Procedure) (start : Configuration) (budget : ℕ) where
  -- the machine returns with the words of the module's variables as block and those of the results as stack. The call and each turn
  -- of its budget pay for as many instructions as the code has
  pub record Returns (store : Store) : Type 0 where
    pub count : ℕ
    pub few : count ≤ suc budget * length code
    pub returned : exec code (stack_words program.procedures) count start ≡ Returned (encoded (activation_at store 0)) (words_of (values_of_results (activation_at store results_position)))
    pub typed : IsStateOf program.variables (activation_at store 0)
    pub fitting : AreValuesOf (filter (λ q. q.is_var) p.parameters) (values_of_results (activation_at store results_position))

  -- what the outcome of the source says of the machine
  abbrev pub Follows : Outcome → Type 0
  Follows (Done left store) = Returns store
  Follows (Trap k) = Stops code (stack_words program.procedures) (suc budget * length code) start k

-- the store where a call from outside begins
abbrev pub first_store : Procedure → Activation → List Scalar → Store
first_store p state arguments =
    state ∷ results_begun p.parameters ∷ activation_of p (outside_handed 0 p.parameters arguments) ∷ []

-- of a call of an export from outside: the stack begins within its words, and the machine follows the source
pub record Exported (program : Program) (code : List Instr) (p : Procedure) (entry : ℕ) (state : Activation) (arguments : List Scalar) (budget : ℕ) : Type 0 where
  pub within : length (beginning entry program.variables p.parameters state arguments budget).body.stack ≤ stack_words program.procedures
  pub follows : Follows program code p (beginning entry program.variables p.parameters state arguments budget) budget
      (meaning_of_all (calls program (most_activations - 1)) p.body budget (first_store p state arguments))

abbrev pub ExportRuns : Type 0
ExportRuns =
    (program : Program) (code : List Instr) → IsWellFormed program → Stand program code →
    (i : ℕ) (p : Procedure) → slice_get program.procedures i ≡ Some p → p.is_exported ≡ true →
    (state : Activation) (arguments : List Scalar) (budget : ℕ) → IsStateOf program.variables state → AreArgumentsOf p.parameters arguments →
    Exported program code p (entry_of program.procedures i) state arguments budget

-- ---- all of it

pub record ExecutionRuns : Type 0 where
  pub low_has_room : LowHasRoom
  pub stays_low : StaysLow
  pub statement_runs : StatementRuns
  pub statements_run : StatementsRun
  pub branches_run : BranchesRun
  pub calls_run : CallsRun
  pub export_runs : ExportRuns
