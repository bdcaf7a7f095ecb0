-- What a history tells is in range: its budget, its events, and how many processes they need.
use Rattle.std.proofs.Common.{ℕ, ◌<◌, ◌≤◌, ◌^◌, List, [], ◌∷◌, All, Option, Some, None, refl, arith}
use Rattle.std.proofs.lemmas.List.Elements.{All-nil, All-push}
use Rattle.ob_checked.specs.Exports.{signatures}
use Rattle.ob_interface.specs.Call.{ObjectCall, Reply}
use Rattle.ob_interface.specs.Export.{Signature}
use Rattle.ob_meaning.specs.ByNameObject.{most_turns}
use Rattle.ob_object_search.specs.Searched.{budget_of}
use Rattle.ob_laws.specs.FoundRecords.{MayBeAsked}
use Rattle.ob_text_reading.specs.HistoryLines as Lines
use Rattle.ob_text_reading.specs.HistoryLines.{AreEventLines, HistoryTold, IsHistoryText, TellsBudget, process_numbers}
use Rattle.ob_text_reading.specs.RecordLines as Heads
use Rattle.ob_text_reading.specs.RecordLines.{IsBudget, IsEvent, IsId, Line}
use Rattle.ob_text_words.specs.Words.{Word}
use Rattle.ob_typing.specs.Program.{Program}
use Rattle.wf_lookup.specs.Beginnings.{process_count}
use Rattle.wf_history.specs.declared.event.CallId.{CallId}
use Rattle.wf_history.specs.History.{Event, Begin, Applied, End, IsHistory}

-- ---- the budget

line_small : {line : Line} {b : ℕ} → IsBudget line b → b ≤ most_turns
line_small (Heads.budget says few) = few

told_small : {ls : List Line} {told : Option ℕ} → TellsBudget ls told → MayBeAsked told
told_small Lines.none = tt
told_small (Lines.told says) = line_small says

one_small : (asked told : Option ℕ) → MayBeAsked asked → MayBeAsked told → budget_of asked told ≤ most_turns
one_small (Some turns) told h k = h
one_small None (Some turns) h k = k
one_small None None h k = omega arith

-- ---- the events

-- a Begin or an End, whose number is below 2^64
abbrev pub IsSmall : Event ObjectCall Reply → Type 0
IsSmall (Begin id call) = id.number < 2 ^ 64
IsSmall (Applied ids) = ⊥
IsSmall (End id reply) = id.number < 2 ^ 64

id_small : {processes : ℕ} {word : Word} {id : CallId} → IsId processes word id → id.number < 2 ^ 64
id_small (Heads.id first below second small) = small

event_small : (signatures : List Signature) (processes : ℕ) (before : List (Event ObjectCall Reply)) (line : Line) (e : Event ObjectCall Reply) → IsEvent processes signatures before line e → IsSmall e
event_small signatures processes before line e (Heads.begin names found fit) = id_small names
event_small signatures processes before line e (Heads.end names begun replies) = id_small names

module _ (signatures : List Signature) where
  lines_small : {before all : List (Event ObjectCall Reply)} {ls : List Line} → AreEventLines signatures before ls all → All IsSmall before → All IsSmall all
  lines_small Lines.over small = small
  lines_small {before} (Lines.event {line = line} {e = e} next rest) small =
      lines_small rest (All-push IsSmall before e small (event_small signatures process_numbers before line e next.next.form))
  lines_small (Lines.applied says rest) small = lines_small rest small
  lines_small (Lines.order says tails) small = small

  lines_whole : {before all : List (Event ObjectCall Reply)} {ls : List Line} → AreEventLines signatures before ls all → IsHistory before → IsHistory all
  lines_whole Lines.over whole = whole
  lines_whole (Lines.event next rest) whole = lines_whole rest next.next.place
  lines_whole (Lines.applied says rest) whole = lines_whole rest whole
  lines_whole (Lines.order says tails) whole = whole

no_event : IsHistory {Call = ObjectCall} {Reply = Reply} []
no_event process = refl

module _ (program : Program) (text : List ℕ) (tells : HistoryTold) (h : IsHistoryText program text tells) where
  pub budget_small : (asked : Option ℕ) → MayBeAsked asked → budget_of asked tells.budget ≤ most_turns
  budget_small asked may = one_small asked tells.budget may (told_small h.fronts.tells)

  pub events_small : All IsSmall tells.events
  events_small = lines_small (signatures program) h.tells (All-nil IsSmall)

  pub events_whole : IsHistory tells.events
  events_whole = lines_whole (signatures program) h.tells no_event

-- ---- processes

pub some_processes : (events : List (Event ObjectCall Reply)) → 1 ≤ process_count events
some_processes [] = omega arith
some_processes (e ∷ events) = let rest = some_processes events in omega (arith, rest)
