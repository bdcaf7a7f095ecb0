-- How reading goes on: what has been heard so far, and what one more line makes of it.
use Rattle.std.specs.Prelude.{◌≡◌, ℕ, ◌<◌, ◌==◌, ◌||◌, Bool, IsTrue, List, [], ◌∷◌, ◌++◌, length, slice_get, Option, Some, None}
use Rattle.ob_checked.specs.Exports.{signatures}
use Rattle.ob_interface.specs.Call.{ObjectCall, Reply}
use Rattle.ob_interface.specs.Export.{Signature}
use Rattle.ob_meaning.specs.ByPositionStore.{Activation, Holds}
use Rattle.ob_meaning.specs.ByPositionValue.{Value}
use Rattle.ob_text_reading.specs.HistoryLines.{HistoryTold, IsAnyCount, IsAnyTitle, IsNamedEvent, process_numbers}
use Rattle.ob_text_reading.specs.declared.event.Said.{Said}
use Rattle.ob_text_reading.specs.declared.event.Said.TheVariants as Says
use Rattle.ob_text_values_reading.specs.declared.kind.LineKind.{LineKind}
use Rattle.ob_text_values_reading.specs.declared.kind.LineKind.TheVariants as Kinds
use Rattle.ob_text_values_reading.specs.declared.kind.Stage.{Stage}
use Rattle.ob_text_values_reading.specs.declared.kind.Stage.TheVariants as Stages
use Rattle.ob_text_reading.specs.Openings.{IsOpening}
use Rattle.ob_text_reading.specs.RecordLines.{AreIds, IsApplied, IsBudget, IsTail, Line}
pub use Rattle.ob_text_values_reading.specs.LineKinds.{kind_of, place}
use Rattle.ob_text_words.specs.Words.{Word}
use Rattle.ob_typing.specs.Program.{Program, Variable}
use Rattle.wf_history.specs.declared.event.CallId.{CallId}
use Rattle.wf_history.specs.History.{Event, Begin, End}
use Rattle.wf_history.specs.View.{kept_call, kept_reply}

-- the last stage that the lines have come to, and what they have told
pub record Heard : Type 0 where
  pub stage : Stage
  pub budget : Option ℕ
  pub held : Activation
  pub events : List (Event ObjectCall Reply)

abbrev pub at_start : Heard
at_start = record { stage = Stages.Start; budget = None; held = []; events = [] }

abbrev pub at_stage : Stage → Heard → Heard
at_stage stage h = record { stage = stage; budget = h.budget; held = h.held; events = h.events }

abbrev pub carried_in : Activation → Option Activation
carried_in [] = None
carried_in (first ∷ held) = Some (first ∷ held)

abbrev pub told_in : Heard → HistoryTold
told_in h = record { budget = h.budget; carried = carried_in h.held; events = h.events }

-- a word of this byte alone, and then names of calls
pub record NamesCalls (letter : ℕ) (line : Line) : Type 0 where
  pub ws : List Word
  pub ids : List CallId
  pub parts : line ≡ (letter ∷ []) ∷ ws
  pub each : AreIds process_numbers ws ids

-- none of the variables has an opening, or each one
abbrev pub is_opened : List Variable → Activation → Bool
is_opened variables held = (length held == 0) || (length held == length variables)

-- what is said of an event
abbrev pub event_said : Said → Event ObjectCall Reply
event_said (Says.Begin id call) = Begin id (kept_call call)
event_said (Says.End id reply) = End id (kept_reply reply)

-- behind these events, a line of an event or of applied calls leads to those
pub data GoesOn (signatures : List Signature) (before : List (Event ObjectCall Reply)) (line : Line) : List (Event ObjectCall Reply) → Type 0 where
  event : {e : Event ObjectCall Reply} → IsNamedEvent signatures before line e → GoesOn signatures before line (before ++ e ∷ [])
  applied : IsApplied process_numbers line → GoesOn signatures before line before

-- a line leads from one to the other
module _ (program : Program) (h : Heard) (line : Line) where
  -- a variable's opening, the next one's
  pub record Opens (next : Heard) : Type 0 where
    pub variable : Variable
    pub value : Value
    pub early : place h.stage < 5
    pub own : slice_get program.variables (length h.held) ≡ Some variable
    pub says : IsOpening variable line value
    pub after : next ≡ record { stage = Stages.Openings; budget = h.budget; held = h.held ++ Holds value ∷ []; events = h.events }

  -- an event
  pub record Tells (next : Heard) : Type 0 where
    pub e : Event ObjectCall Reply
    pub early : place h.stage < 6
    pub opened : IsTrue (is_opened program.variables h.held)
    pub says : IsNamedEvent (signatures program) h.events line e
    pub after : next ≡ record { stage = Stages.Events; budget = h.budget; held = h.held; events = h.events ++ e ∷ [] }

  abbrev pub LeadsAs : LineKind → Heard → Type 0
  LeadsAs Kinds.Comment next = next ≡ h
  LeadsAs Kinds.Title next = (place h.stage < 1) × IsAnyTitle line × (next ≡ at_stage Stages.Title h)
  LeadsAs Kinds.Count next = (place h.stage < 2) × IsAnyCount line × (next ≡ at_stage Stages.Count h)
  LeadsAs Kinds.Budget next =
      (b : ℕ) × (place h.stage < 3) × IsBudget line b × (next ≡ record { stage = Stages.Budget; budget = Some b; held = h.held; events = h.events })
  LeadsAs Kinds.Opening next = Opens next
  LeadsAs Kinds.Event next = Tells next
  LeadsAs Kinds.Applied next = (place h.stage < 6) × IsTrue (is_opened program.variables h.held) × NamesCalls 65 line × (next ≡ at_stage Stages.Events h)
  LeadsAs Kinds.Order next =
      (place h.stage < 6) × IsTrue (is_opened program.variables h.held) × NamesCalls 79 line × (next ≡ at_stage Stages.Order h)
  LeadsAs Kinds.Tail next = (place h.stage ≡ 6) × IsTail line × (next ≡ h)
  LeadsAs Kinds.Other next = ⊥

  abbrev pub Leads : Heard → Type 0
  Leads next = LeadsAs (kind_of line) next
