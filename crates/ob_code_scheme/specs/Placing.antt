-- What is owed of code and of runs: lengths, what stands where, how runs come one behind the other.
use Rattle.std.specs.Prelude.{◌≡◌, ℕ, suc, ◌+◌, ◌≤◌, ℤ, List, [], ◌∷◌, ◌++◌, length, slice_get, Some}
use Rattle.ob_typing.specs.Program.{DataType, Expression, Operations, Designator, Selectors, Actual, Statement, Statements, Branches, Procedure, Program}
use Rattle.ob_typing.specs.Arithmetic.{Evaluated}
use Rattle.ob_meaning.specs.ByPositionStore.{Store}
use Rattle.ob_meaning.specs.ByPositionStatements.{Outcome, Done, Trap, Run, after, then_run}
use Rattle.ob_code_scheme.specs.Types.{Scope, Fits}
use Rattle.ob_code_words.specs.declared.instr.Instr.{Instr}
use Rattle.ob_code_machine.specs.declared.saved.Saved.{Saved}
use Rattle.ob_code_machine.specs.Machine.{Configuration, Unfinished, Trapped, turn}
use Rattle.ob_code_scheme.specs.Scheme.{size, operations_size, designator_size, selectors_size, actuals_size, statement_size, statements_size, branches_size, procedure_size, entry_of, code_at, operations_at, designator_at, selectors_at, actuals_at, statement_at, statements_at, branches_at, procedure_at, code_of, HasAt}
use Rattle.ob_code_scheme.specs.Image.{Scopes, all, image, Leads, Stops, Runs}
use Rattle.ob_code_scheme.specs.Running.{Stand, Setting, scopes_of, reserve_of, here, Evaluates}

-- ---- lengths: a construct's code has as many instructions as its size says, from each place on

pub record CodeLengths : Type 0 where
  pub expression : (globals own : Scope) (a : ℕ) (e : Expression) → length (code_at globals own a e) ≡ size own e
  pub operations : (globals own : Scope) (a : ℕ) (rest : Operations) → length (operations_at globals own a rest) ≡ operations_size own rest
  pub designator : (globals own : Scope) (a : ℕ) (d : Designator) → length (designator_at globals own a d) ≡ designator_size own d
  pub selectors : (globals own : Scope) (a : ℕ) (type : DataType) (ss : Selectors) → length (selectors_at globals own a type ss) ≡ selectors_size own ss
  pub actuals : (globals own : Scope) (a : ℕ) (actuals : List Actual) → length (actuals_at globals own a actuals) ≡ actuals_size own actuals
  pub statement : (globals own : Scope) (entry : ℕ → ℕ) (a : ℕ) (s : Statement) → length (statement_at globals own entry a s) ≡ statement_size own s
  pub statements : (globals own : Scope) (entry : ℕ → ℕ) (a : ℕ) (ss : Statements) → length (statements_at globals own entry a ss) ≡ statements_size own ss
  pub branches : (globals own : Scope) (entry : ℕ → ℕ) (a : ℕ) (bs : Branches) → length (branches_at globals own entry a bs) ≡ branches_size own bs
  pub procedure : (globals : Scope) (entry : ℕ → ℕ) (a : ℕ) (p : Procedure) → length (procedure_at globals entry a p) ≡ procedure_size p

-- ---- what stands where

abbrev pub HasFront : Type 0
HasFront = (code : List Instr) (a : ℕ) (xs ys : List Instr) → HasAt code a (xs ++ ys) → HasAt code a xs

-- the rest stands behind the front, of which the length is told
abbrev pub HasBack : Type 0
HasBack =
    (code : List Instr) (a n : ℕ) (xs ys : List Instr) → length xs ≡ n → HasAt code a (xs ++ ys) → HasAt code (a + n) ys

-- what stands in the code takes no more of it than there is
abbrev pub HasWithin : Type 0
HasWithin =
    (code : List Instr) (a : ℕ) (i : Instr) (is : List Instr) → HasAt code a (i ∷ is) → a + suc (length is) ≤ length code

-- in the code of a program each procedure stands at its entry
abbrev pub ProceduresStand : Type 0
ProceduresStand = (program : Program) → Stand program (code_of program).instructions

-- and that is where the code's entries say
abbrev pub EntriesAre : Type 0
EntriesAre =
    (program : Program) (i : ℕ) (p : Procedure) → slice_get program.procedures i ≡ Some p → slice_get (code_of program).entries i ≡ Some (entry_of program.procedures i)

-- ---- runs one behind the other

module _ (code : List Instr) (reserve : ℕ) where
  pub record LeadsGlue : Type 0 where
    -- no instruction leads to where one is
    pub none : (c : Configuration) → Leads code reserve 0 c c
    -- one instruction
    pub one : (c c' : Configuration) → turn code reserve c ≡ Unfinished c' → Leads code reserve 1 c c'
    pub stops_one : (c : Configuration) (k : ℕ) → turn code reserve c ≡ Trapped k → Stops code reserve 1 c k
    -- one behind the other
    pub on : (m n : ℕ) (a b c : Configuration) → Leads code reserve m a b → Leads code reserve n b c → Leads code reserve (m + n) a c
    pub stops_on : (m n : ℕ) (a b : Configuration) (k : ℕ) → Leads code reserve m a b → Stops code reserve n b k → Stops code reserve (m + n) a k
    -- what is within so many is within more
    pub more : (m n : ℕ) (a b : Configuration) → m ≤ n → Leads code reserve m a b → Leads code reserve n a b
    pub stops_more : (m n : ℕ) (a : Configuration) (k : ℕ) → m ≤ n → Stops code reserve m a k → Stops code reserve n a k

  module _ (scopes : Scopes) (saved : List Saved) where
    pub record RunsGlue : Type 0 where
      -- nothing is done yet: no turn is used
      pub done : (n : ℕ) (store : Store) (c : Configuration) (size pc : ℕ) → Fits (all scopes) store → Leads code reserve size c (image scopes saved store n pc []) →
          Runs code reserve scopes saved size n c pc (Done n store)
      -- a trap within the size
      pub traps : (n size pc k : ℕ) (c : Configuration) → Stops code reserve size c k → Runs code reserve scopes saved size n c pc (Trap k)
      -- instructions before, within the size
      pub on : (m n size whole pc : ℕ) (a b : Configuration) (o : Outcome) → m + size ≤ whole → Leads code reserve m a b →
          Runs code reserve scopes saved size n b pc o → Runs code reserve scopes saved whole n a pc o
      -- instructions before with which a turn was taken: it pays for as many as the code has
      pub turned : (m n size whole pc : ℕ) (a b : Configuration) (o : Outcome) → m + size ≤ whole + length code → Leads code reserve m a b →
          Runs code reserve scopes saved size n b pc o → Runs code reserve scopes saved whole (suc n) a pc o
      -- instructions behind, which change the place alone
      pub behind : (m n size whole pc pc' : ℕ) (c : Configuration) (o : Outcome) → size + m ≤ whole →
          ((left : ℕ) (store : Store) → Fits (all scopes) store → Leads code reserve m (image scopes saved store left pc []) (image scopes saved store left pc' [])) →
          Runs code reserve scopes saved size n c pc o → Runs code reserve scopes saved whole n c pc' o
      -- one run behind the other
      pub then_runs : (n first second whole pc pc' : ℕ) (c : Configuration) (o : Outcome) (run : Run) → first + second ≤ whole →
          Runs code reserve scopes saved first n c pc o →
          ((left : ℕ) (store : Store) → left ≤ n → Fits (all scopes) store → Runs code reserve scopes saved second left (image scopes saved store left pc []) pc' (run left store)) →
          Runs code reserve scopes saved whole n c pc' (then_run o run)

-- for each code, reserve, scopes and saved pairs
abbrev pub LeadsGlues : Type 0
LeadsGlues = (code : List Instr) (reserve : ℕ) → LeadsGlue code reserve

abbrev pub RunsGlues : Type 0
RunsGlues =
    (code : List Instr) (reserve : ℕ) (scopes : Scopes) (saved : List Saved) → RunsGlue code reserve scopes saved

-- a run behind an evaluation, or its trap
abbrev pub AfterRuns : Type 0 → Type 1
AfterRuns A =
    (at : Setting) (store : Store) (n size rest whole a pc : ℕ) (before : List ℤ) (Is : A → Type 0) (behind : A → List ℤ) (e : Evaluated A) (go : A → Outcome) →
    size + rest ≤ whole → Evaluates at store n size a before Is behind e →
    ((x : A) → Is x → Runs at.code (reserve_of at) (scopes_of at) at.saved rest n (here at store n (a + size) (behind x)) pc (go x)) →
    Runs at.code (reserve_of at) (scopes_of at) at.saved whole n (here at store n a before) pc (after e go)

-- ---- all of it

pub record CodePlaced : Type 0 where
  pub lengths : CodeLengths
  pub has_front : HasFront
  pub has_back : HasBack
  pub has_within : HasWithin
  pub procedures_stand : ProceduresStand
  pub entries_are : EntriesAre
  pub leads : LeadsGlues
  pub runs : RunsGlues
