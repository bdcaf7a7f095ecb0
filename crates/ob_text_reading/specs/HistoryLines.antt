-- Histories as they are read: which lines of words are one, what it tells, and where lines stop being one. Lines and words are those of
-- records; who recorded a history, and of what, is not asked.
use Rattle.std.specs.Prelude.{◌≡◌, ℕ, ◌+◌, ◌≤◌, ◌==◌, Bool, true, false, not, List, [], ◌∷◌, ◌++◌, All, Contains, filter, length, codes, Option, Some, None}
use Rattle.ob_checked.specs.Exports.{signatures}
use Rattle.ob_interface.specs.Call.{ObjectCall, Reply}
use Rattle.ob_interface.specs.Export.{Signature}
use Rattle.ob_meaning.specs.ByPositionStore.{Activation}
use Rattle.ob_text_reading.specs.Openings.{AreOpenings}
use Rattle.ob_text_reading.specs.RecordLines.{IsApplied, IsBudget, IsNextEvent, IsOrder, IsTail, IsTitle, Line, record_lines}
use Rattle.ob_text_reading.specs.declared.record_reading.RecordFault.{RecordFault}
use Rattle.ob_text_reading.specs.declared.record_reading.RecordFault.TheVariants as Faults
use Rattle.ob_text_values_reading.specs.Versions.{version_word}
use Rattle.ob_text_values_reading.specs.declared.title.Version.{Version}
use Rattle.ob_text_words.specs.Words.{IsDigits, Word}
use Rattle.ob_typing.specs.Program.{Program, Variable}
use Rattle.wf_history.specs.declared.event.CallId.{CallId}
use Rattle.wf_history.specs.History.{Event, Begin, Applied, End}

-- what a history tells its reader: the budget of each call and the values that the object began with, each where it is told, and the
-- Begin and End events, whose processes are the numbers that stand in the text
pub record HistoryTold : Type 0 where
  pub budget : Option ℕ
  pub carried : Option Activation
  pub events : List (Event ObjectCall Reply)

-- a process is a number of nine digits at most: one below this
abbrev pub process_numbers : ℕ
process_numbers = 1000000000

-- so many different processes may begin and end calls
abbrev pub most_different : ℕ
most_different = 1000

-- the process of a Begin or an End is one of these
abbrev pub IsOfOne : List ℕ → Event ObjectCall Reply → Type 0
IsOfOne names (Begin id call) = Contains names id.process
IsOfOne names (Applied ids) = Unit {0}
IsOfOne names (End id reply) = Contains names id.process

-- there are no more different processes than a history may have
pub record HasFewProcesses (events : List (Event ObjectCall Reply)) : Type 0 where
  pub names : List ℕ
  pub few : length names ≤ most_different
  pub each : All (IsOfOne names) events

-- a line says something unless it has no words, or its first word begins with #
abbrev pub is_said : Line → Bool
is_said [] = false
is_said ([] ∷ ws) = true
is_said ((b ∷ more) ∷ ws) = not (b == 35)

abbrev pub said : List Line → List Line
said = filter is_said

-- obl0 record 1, 2 or 3
pub record IsAnyTitle (line : Line) : Type 0 where
  pub version : Version
  pub title : IsTitle (version_word version) line

-- n N: a number of one to nine digits, of which nothing is asked
pub data IsAnyCount : Line → Type 0 where
  count : {number : Word} {n : ℕ} → IsDigits 9 number n → IsAnyCount (codes "n" ∷ number ∷ [])

-- one such line, or none
pub data AtMostOne (Is : Line → Type 0) : List Line → Type 0 where
  none : AtMostOne Is []
  one : {line : Line} → Is line → AtMostOne Is (line ∷ [])

-- the line of the budget, or none
pub data TellsBudget : List Line → Option ℕ → Type 0 where
  none : TellsBudget [] None
  told : {line : Line} {b : ℕ} → IsBudget line b → TellsBudget (line ∷ []) (Some b)

-- the openings of the variables, or none
pub data TellsOpening (variables : List Variable) : List Line → Option Activation → Type 0 where
  none : TellsOpening variables [] None
  told : {line : Line} {ls : List Line} {held : Activation} → AreOpenings variables (line ∷ ls) held → TellsOpening variables (line ∷ ls) (Some held)

-- the lines before the openings: the title, how many processes there are, and the budget, each of them or none
pub record IsFront (ls : List Line) (budget : Option ℕ) : Type 0 where
  pub title : List Line
  pub count : List Line
  pub third : List Line
  pub parts : ls ≡ title ++ count ++ third
  pub titles : AtMostOne IsAnyTitle title
  pub counts : AtMostOne IsAnyCount count
  pub tells : TellsBudget third budget

-- the exports of the module
module _ (signatures : List Signature) where
  -- an event that its process's events allow there, and with which there are not too many processes
  pub record IsNamedEvent (before : List (Event ObjectCall Reply)) (line : Line) (e : Event ObjectCall Reply) : Type 0 where
    pub next : IsNextEvent process_numbers signatures before line e
    pub few : HasFewProcesses (before ++ e ∷ [])

  -- the lines behind these events: those of further events and of applied calls, and then nothing, or the O line and what may stand
  -- behind it; with all events
  pub data AreEventLines : List (Event ObjectCall Reply) → List Line → List (Event ObjectCall Reply) → Type 0 where
    over : {all : List (Event ObjectCall Reply)} → AreEventLines all [] all
    event : {before all : List (Event ObjectCall Reply)} {line : Line} {rest : List Line} {e : Event ObjectCall Reply} →
        IsNamedEvent before line e → AreEventLines (before ++ e ∷ []) rest all → AreEventLines before (line ∷ rest) all
    applied : {before all : List (Event ObjectCall Reply)} {line : Line} {rest : List Line} →
        IsApplied process_numbers line → AreEventLines before rest all → AreEventLines before (line ∷ rest) all
    order : {all : List (Event ObjectCall Reply)} {line : Line} {rest : List Line} {ids : List CallId} →
        IsOrder process_numbers line ids → All IsTail rest → AreEventLines all (line ∷ rest) all

module _ (program : Program) where
  -- lines that say something are a history of calls of the module, which tells this
  pub record IsHistoryOf (ls : List Line) (t : HistoryTold) : Type 0 where
    pub front : List Line
    pub openings : List Line
    pub behind : List Line
    pub parts : ls ≡ front ++ openings ++ behind
    pub fronts : IsFront front t.budget
    pub opening : TellsOpening program.variables openings t.carried
    pub tells : AreEventLines (signatures program) [] behind t.events

  abbrev pub IsHistoryText : List ℕ → HistoryTold → Type 0
  IsHistoryText text t = IsHistoryOf (said (record_lines text)) t

  -- a whole history, or the first lines of one, as far as the openings of some of the variables, in their order
  pub data IsHistoryPart : List Line → Type 0 where
    whole : {ls : List Line} {t : HistoryTold} → IsHistoryOf ls t → IsHistoryPart ls
    opened : {front openings : List Line} {budget : Option ℕ} {held : Activation} (first others : List Variable) →
        program.variables ≡ first ++ others → IsFront front budget → AreOpenings first openings held → IsHistoryPart (front ++ openings)

  -- some of these begin with the lines
  pub record BeginsHistory (ls : List Line) : Type 0 where
    pub rest : List Line
    pub part : IsHistoryPart (said (ls ++ rest))

  -- F1: the first line with which none of them begins, so that it is out of form or place, or the line that is missing; lines count
  -- from 1, with those that say nothing
  pub data FailsAtLine : List Line → ℕ → Type 0 where
    misplaced : (before : List Line) (line : Line) (rest : List Line) → BeginsHistory before → ¬ BeginsHistory (before ++ line ∷ []) →
        FailsAtLine (before ++ line ∷ rest) (length before + 1)
    missing : {ls : List Line} → BeginsHistory ls → ((t : HistoryTold) → ¬ IsHistoryOf (said ls) t) → FailsAtLine ls (length ls + 1)

  abbrev pub FaultStands : List Line → RecordFault → Type 0
  FaultStands ls (Faults.Form number) = FailsAtLine ls number
  FaultStands ls Faults.NoMemory = Unit {0}

  abbrev pub SaysNone : RecordFault → Type 0
  SaysNone (Faults.Form number) = Unit {0}
  SaysNone Faults.NoMemory = ⊥

  -- the fault stands at its line, and the text is no history
  pub record IsHistoryFault (text : List ℕ) (fault : RecordFault) : Type 0 where
    pub stands : FaultStands (record_lines text) fault
    pub none : SaysNone fault → (t : HistoryTold) → IsHistoryText text t → ⊥
