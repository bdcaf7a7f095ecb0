-- Records as they are read: which lines of words are a record, and where lines stop being one. Words are separated as in
-- scripts, and lines that are remarks are passed over; A lines and the lines behind the O line are read for their form alone.
use Rattle.std.specs.Prelude.{◌≡◌, ℕ, ◌+◌, ◌-◌, ◌≤◌, List, [], ◌∷◌, ◌++◌, All, length, codes, slice_get, Option, Some, None}
use Rattle.ob_interface.specs.declared.scalar.Scalar.{Scalar}
use Rattle.ob_interface.specs.Call.{ObjectCall, Reply, Answers, Trapped}
use Rattle.ob_interface.specs.Processes.{most_processes}
use Rattle.ob_typing.specs.Arithmetic.{no_turn_left}
use Rattle.ob_meaning.specs.ByNameObject.{most_turns}
use Rattle.ob_text_words.specs.Words.{IsNumeral, Word}
use Rattle.ob_text_words.specs.ExportNames.{export_named}
use Rattle.ob_text_words.specs.Values.{AreValues}
use Rattle.ob_interface.specs.Export.{Signature, value_types, var_types}
use Rattle.ob_checked.specs.Exports.{signatures}
use Rattle.ob_meaning.specs.ByPositionStore.{Activation}
use Rattle.ob_typing.specs.Program.{Program, Variable}
pub use Rattle.ob_text_values_reading.specs.CallNames.{AreIds, IsId, id, more, none}
pub use Rattle.ob_text_values_reading.specs.Comments.{StandsAmong, line_number, said}
pub use Rattle.ob_text_values_reading.specs.RecordTexts.{IsTail, IsTitle, Line, record_lines, schedule, variable}
use Rattle.ob_text_reading.specs.Openings.{AreOpenings}
use Rattle.ob_text_reading.specs.declared.record_reading.RecordFault.{RecordFault}
use Rattle.ob_text_reading.specs.declared.record_reading.RecordFault.TheVariants as Faults
use Rattle.wf_history.specs.declared.event.CallId.{CallId}
use Rattle.wf_history.specs.History.{Event, Begin, End, IsHistory, own_calls}

-- what a record tells its reader: how many processes there are, the budget of each call, the values that its object began with
-- where they were carried over, the Begin and End events, and the order
pub record Told : Type 0 where
  pub processes : ℕ
  pub budget : ℕ
  pub carried : Option Activation
  pub events : List (Event ObjectCall Reply)
  pub order : List CallId

-- n N: 1 to 16 processes
pub data IsCount : Line → ℕ → Type 0 where
  count : {number : Word} {n : ℕ} → IsNumeral number n → 1 ≤ n → n ≤ most_processes → IsCount (codes "n" ∷ number ∷ []) n

-- b BUDGET: 0 to 1000000 turns
pub data IsBudget : Line → ℕ → Type 0 where
  budget : {number : Word} {b : ℕ} → IsNumeral number b → b ≤ most_turns → IsBudget (codes "b" ∷ number ∷ []) b

-- the exports of the module
module _ (signatures : List Signature) where
  -- the reply to a call of the export of a number: done and the values of its VAR parameters, or trap and 1 to 5
  pub data IsReply (export : ℕ) : List Word → Reply → Type 0 where
    done : {ws : List Word} {signature : Signature} {values : List Scalar} →
        slice_get signatures export ≡ Some signature → AreValues (var_types signature.formals) ws values →
        IsReply export (codes "done" ∷ ws) (Answers values)
    trap : {word : Word} {k : ℕ} → IsNumeral word k → 1 ≤ k → k ≤ no_turn_left → IsReply export (codes "trap" ∷ word ∷ []) (Trapped k)

-- there are so many processes
module _ (processes : ℕ) where
  -- A ids
  pub data IsApplied : Line → Type 0 where
    applied : {ws : List Word} {ids : List CallId} → AreIds processes ws ids → IsApplied (codes "A" ∷ ws)

  -- O ids
  pub data IsOrder : Line → List CallId → Type 0 where
    order : {ws : List Word} {ids : List CallId} → AreIds processes ws ids → IsOrder (codes "O" ∷ ws) ids

  -- the exports of the module
  module _ (signatures : List Signature) where
    -- a line of an event behind others: a call of an export begins, or a call that its process has begun ends
    pub data IsEvent (before : List (Event ObjectCall Reply)) : Line → Event ObjectCall Reply → Type 0 where
      begin : {word name : Word} {rest : List Word} {id : CallId} {n : ℕ} {signature : Signature} {arguments : List Scalar} →
          IsId processes word id → export_named signatures name ≡ Some (n, signature) → AreValues (value_types signature.formals) rest arguments →
          IsEvent before (codes "B" ∷ word ∷ name ∷ rest) (Begin id (record { export = n; arguments = arguments }))
      end : {word : Word} {rest : List Word} {id : CallId} {call : ObjectCall} {reply : Reply} →
          IsId processes word id → slice_get (own_calls id.process before) (id.number - 1) ≡ Some call → IsReply signatures call.export rest reply →
          IsEvent before (codes "E" ∷ word ∷ rest) (End id reply)

    -- an event that its process's events allow there
    pub record IsNextEvent (before : List (Event ObjectCall Reply)) (line : Line) (e : Event ObjectCall Reply) : Type 0 where
      pub form : IsEvent before line e
      pub place : IsHistory (before ++ e ∷ [])

    -- the lines behind these events: those of further events, then the O line, then others; with all events and the order
    pub data AreLines : List (Event ObjectCall Reply) → List Line → List (Event ObjectCall Reply) → List CallId → Type 0 where
      event : {before all : List (Event ObjectCall Reply)} {line : Line} {rest : List Line} {e : Event ObjectCall Reply} {ids : List CallId} →
          IsNextEvent before line e → AreLines (before ++ e ∷ []) rest all ids → AreLines before (line ∷ rest) all ids
      applied : {before all : List (Event ObjectCall Reply)} {line : Line} {rest : List Line} {ids : List CallId} →
          IsApplied line → AreLines before rest all ids → AreLines before (line ∷ rest) all ids
      order : {before : List (Event ObjectCall Reply)} {line : Line} {rest : List Line} {ids : List CallId} →
          IsOrder line ids → All IsTail rest → AreLines before (line ∷ rest) before ids

-- the lines of a head: the title, how many processes there are, and from version 2 on the budget of each call, which in version 1 is
-- the greatest one; in version 3 the openings of the module's variables behind it
pub data IsHead (variables : List Variable) : List Line → (processes budget : ℕ) → Option Activation → Type 0 where
  of_version_1 : {title second : Line} {n : ℕ} → IsTitle (codes "1") title → IsCount second n → IsHead variables (title ∷ second ∷ []) n most_turns None
  of_version_2 : {title second third : Line} {n b : ℕ} → IsTitle (codes "2") title → IsCount second n → IsBudget third b →
      IsHead variables (title ∷ second ∷ third ∷ []) n b None
  of_version_3 : {title second third : Line} {openings : List Line} {n b : ℕ} {held : Activation} → IsTitle (codes "3") title → IsCount second n → IsBudget third b →
      AreOpenings variables openings held → IsHead variables (title ∷ second ∷ third ∷ openings) n b (Some held)

module _ (program : Program) where
  -- the lines are a record of the program's object that tells this
  pub record IsRecordOf (ls : List Line) (t : Told) : Type 0 where
    pub head : List Line
    pub behind : List Line
    pub parts : ls ≡ head ++ behind
    pub heads : IsHead program.variables head t.processes t.budget t.carried
    pub tells : AreLines t.processes (signatures program) [] behind t.events t.order

  abbrev pub IsRecord : List ℕ → Told → Type 0
  IsRecord text t = IsRecordOf (said (record_lines text)) t

  -- a whole record, or the first lines of one of version 3, as far as the openings of some of the variables, in their order
  pub data IsRecordPart : List Line → Type 0 where
    whole : {ls : List Line} {t : Told} → IsRecordOf ls t → IsRecordPart ls
    opened : {title second third : Line} {openings : List Line} {n b : ℕ} {held : Activation} (first others : List Variable) →
        program.variables ≡ first ++ others → IsTitle (codes "3") title → IsCount second n → IsBudget third b → AreOpenings first openings held →
        IsRecordPart (title ∷ second ∷ third ∷ openings)

  -- some of these begin with the lines
  pub record BeginsRecord (ls : List Line) : Type 0 where
    pub rest : List Line
    pub part : IsRecordPart (ls ++ rest)

  -- F1: the first line with which none of them begins, so that it is out of form or place, or the line that is missing; lines count from 1
  pub data FailsAtLine : List Line → ℕ → Type 0 where
    misplaced : (before : List Line) (line : Line) (rest : List Line) → BeginsRecord before → ¬ BeginsRecord (before ++ line ∷ []) →
        FailsAtLine (before ++ line ∷ rest) (length before + 1)
    missing : {ls : List Line} → BeginsRecord ls → ((t : Told) → ¬ IsRecordOf ls t) → FailsAtLine ls (length ls + 1)

  abbrev pub FaultStands : List Line → RecordFault → Type 0
  FaultStands ls (Faults.Form number) = FailsAtLine ls number
  FaultStands ls Faults.NoMemory = Unit {0}

  -- the same of the lines of a text: of those that are no remarks, told by its number among all
  abbrev pub FaultAmong : List Line → RecordFault → Type 0
  FaultAmong ls (Faults.Form number) = StandsAmong FailsAtLine ls number
  FaultAmong ls Faults.NoMemory = Unit {0}

  abbrev pub SaysNone : RecordFault → Type 0
  SaysNone (Faults.Form number) = Unit {0}
  SaysNone Faults.NoMemory = ⊥

  -- the fault stands at its line, and the text is no record
  pub record IsRecordFault (text : List ℕ) (fault : RecordFault) : Type 0 where
    pub stands : FaultAmong (record_lines text) fault
    pub none : SaysNone fault → (t : Told) → IsRecord text t → ⊥
