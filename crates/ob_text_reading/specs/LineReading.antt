-- What is read of one line behind a record's head, and of all of them.
use Rattle.std.specs.Prelude.{◌≡◌, ℕ, ◌+◌, List, [], ◌∷◌, ◌++◌, length, map, Option, Some, MatchOption}
use Rattle.std.specs.Borrow.{Bor}
use Rattle.ob_interface.specs.Call.{ObjectCall, Reply}
use Rattle.ob_interface.specs.Export.{Signature, value_types}
use Rattle.ob_text_reading.specs.declared.line.Line as Rust
use Rattle.ob_text_reading.specs.declared.line.Line.TheVariants as Says
use Rattle.ob_text_reading.specs.declared.record_reading.RecordFault.{RecordFault}
use Rattle.ob_text_reading.specs.declared.record_reading.RecordFault.TheVariants as Faults
use Rattle.ob_text_reading.specs.RecordLines.{AreIds, AreLines, IsApplied, IsNextEvent, IsOrder, IsReply, Line}
use Rattle.ob_text_reading.specs.Seats.{EndsCall}
use Rattle.ob_text_words.specs.ExportNames.{export_named}
use Rattle.ob_text_words.specs.Values.{AreValues}
use Rattle.ob_text_words.specs.Words.{Word, lines, words}
use Rattle.wf_history.specs.declared.event.CallId.{CallId}
use Rattle.wf_history.specs.History.{Event, Begin, End, IsHistory}
use Rattle.wf_history.specs.View.{kept_call, kept_reply}

-- these words behind an O say this order
abbrev pub IsOrderRead : ℕ → List Word → Rust.Line → Type 0
IsOrderRead processes ws (Says.Order ids) = AreIds processes ws ids.items
IsOrderRead processes ws (Says.Begin id call) = ⊥
IsOrderRead processes ws (Says.End id reply) = ⊥
IsOrderRead processes ws Says.Applied = ⊥

-- these words behind an A say calls
abbrev pub IsAppliedRead : ℕ → List Word → Rust.Line → Type 0
IsAppliedRead processes ws Says.Applied = (ids : List CallId) × AreIds processes ws ids
IsAppliedRead processes ws (Says.Begin id call) = ⊥
IsAppliedRead processes ws (Says.End id reply) = ⊥
IsAppliedRead processes ws (Says.Order ids) = ⊥

-- the first line of a text leads to something, and this stands behind it
pub record TakesLine {X : Type 0} (Leads : Line → X → Type 0) (text : List ℕ) (after : X) (rest : List ℕ) : Type 0 where
  pub line : Line
  pub parts : map words (lines text) ≡ line ∷ map words (lines rest)
  pub leads : Leads line after

-- behind these events, a line leads to those
pub data LeadsOn (processes : ℕ) (signatures : List Signature) (before : List (Event ObjectCall Reply)) (line : Line) : List (Event ObjectCall Reply) → Type 0 where
  event : {e : Event ObjectCall Reply} → IsNextEvent processes signatures before line e → LeadsOn processes signatures before line (before ++ e ∷ [])
  applied : IsApplied processes line → LeadsOn processes signatures before line before

module _ (signatures : List Signature) (before : List (Event ObjectCall Reply)) (i : CallId) (text : List ℕ) (after : List (Event ObjectCall Reply)) (rest : List ℕ) where
  -- the first line of a text says an export's name and arguments; the call that begins so may come next, and leads to those events
  pub record TakesBegin : Type 0 where
    pub name : Word
    pub line : Line
    pub parts : map words (lines text) ≡ (name ∷ line) ∷ map words (lines rest)
    pub signature : Signature
    pub call : ObjectCall
    pub named : export_named signatures name ≡ Some (call.export, signature)
    pub says : AreValues (value_types signature.formals) line call.arguments
    pub turn : IsHistory (before ++ Begin i call ∷ [])
    pub leads : after ≡ before ++ Begin i call ∷ []

  -- the first line of a text says a reply; the call may end with it, and leads to those events
  pub record TakesEnd : Type 0 where
    pub line : Line
    pub parts : map words (lines text) ≡ line ∷ map words (lines rest)
    pub export : ℕ
    pub reply : Reply
    pub ends : EndsCall before i export
    pub says : IsReply signatures export line reply
    pub leads : after ≡ before ++ End i reply ∷ []

-- where something of a text is taken up, it leads to what holds then and leaves the rest; else all stays as before
abbrev pub TakesOrLeaves : {X : Type 0} → (before after : X) → (X → List ℕ → Type 0) → Option (Bor (List ℕ)) → Type 0
TakesOrLeaves before after Takes taken = MatchOption taken (after ≡ before) (λ rest. Takes after rest.now)

module _ (processes : ℕ) (signatures : List Signature) where
  module _ (before : List (Event ObjectCall Reply)) (line : Line) where
    -- the line says this
    abbrev pub HasSaid : Rust.Line → Type 0
    HasSaid (Says.Begin id call) = IsNextEvent processes signatures before line (Begin id (kept_call call))
    HasSaid (Says.End id reply) = IsNextEvent processes signatures before line (End id (kept_reply reply))
    HasSaid Says.Applied = IsApplied processes line
    HasSaid (Says.Order ids) = IsOrder processes line ids.items

    -- the line is one of an event, and says this
    abbrev pub IsEventRead : Rust.Line → Type 0
    IsEventRead (Says.Begin id call) = IsNextEvent processes signatures before line (Begin id (kept_call call))
    IsEventRead (Says.End id reply) = IsNextEvent processes signatures before line (End id (kept_reply reply))
    IsEventRead Says.Applied = ⊥
    IsEventRead (Says.Order ids) = ⊥

    -- the line is none that may stand there
    pub record SaysNothing : Type 0 where
      pub event : (e : Event ObjectCall Reply) → IsNextEvent processes signatures before line e → ⊥
      pub applied : IsApplied processes line → ⊥
      pub order : (ids : List CallId) → IsOrder processes line ids → ⊥

    -- what the line says is found, if it may stand there
    abbrev pub FindsLine : Option Rust.Line → Type 0
    FindsLine read = MatchOption read SaysNothing HasSaid

    -- the event that the line says is found, if it says one that may stand there
    abbrev pub FindsEvent : Option Rust.Line → Type 0
    FindsEvent read = MatchOption read ((e : Event ObjectCall Reply) → IsNextEvent processes signatures before line e → ⊥) IsEventRead

  -- some lines begin with these
  pub record BeginsLines (ls : List Line) : Type 0 where
    pub rest : List Line
    pub all : List (Event ObjectCall Reply)
    pub ids : List CallId
    pub whole : AreLines processes signatures [] (ls ++ rest) all ids

  -- there are so many lines in the head
  module _ (head : ℕ) where
    -- the first line behind the head that may not stand there, or is missing
    pub data FailsBehind : List Line → ℕ → Type 0 where
      misplaced : (before : List Line) (line : Line) (rest : List Line) → BeginsLines before → ¬ BeginsLines (before ++ line ∷ []) →
          FailsBehind (before ++ line ∷ rest) (head + length before + 1)
      missing : {ls : List Line} → BeginsLines ls → ((all : List (Event ObjectCall Reply)) (ids : List CallId) → ¬ AreLines processes signatures [] ls all ids) →
          FailsBehind ls (head + length ls + 1)

    abbrev pub FaultBehind : List Line → RecordFault → Type 0
    FaultBehind ls (Faults.Form number) = FailsBehind ls number
    FaultBehind ls Faults.NoMemory = Unit {0}
