-- The calls of a history fit the program of whose object it is, and its openings open the variables.
use Rattle.std.proofs.Common.{ℕ, List, take, Option}
use Rattle.ob_checked.specs.Exports.{signatures}
use Rattle.ob_code_correct.specs.Carried.{BegunFit}
use Rattle.ob_code_correct.specs.Compiled.{Fits}
use Rattle.ob_interface.specs.Call.{ObjectCall, Reply}
use Rattle.ob_object_calls.proofs.Beginnings.{AreOpened}
use Rattle.ob_object_calls.proofs.VerifyFitting.{event_fits, none_begun, one_more}
use Rattle.ob_meaning.specs.ByPositionStore.{Activation}
use Rattle.ob_text_reading.specs.HistoryLines as Lines
use Rattle.ob_text_reading.specs.HistoryLines.{AreEventLines, HistoryTold, IsHistoryText, TellsOpening, process_numbers}
use Rattle.ob_text_reading.specs.RecordLines.{Line}
use Rattle.ob_typing.specs.Program.{Program, Variable}
use Rattle.wf_history.proofs.Positions.{contains_at, place_of, place_take}
use Rattle.wf_history.specs.History.{Event, Begin}

opened : (variables : List Variable) {ls : List Line} {carried : Option Activation} → TellsOpening variables ls carried → AreOpened variables carried
opened variables Lines.none = tt
opened variables (Lines.told {line = line} {ls = ls} each) = (_, each)

module _ (program : Program) where
  lines_fit : {before all : List (Event ObjectCall Reply)} {ls : List Line} → AreEventLines (signatures program) before ls all →
      BegunFit (Fits program) before → BegunFit (Fits program) all
  lines_fit Lines.over fit = fit
  lines_fit {before} (Lines.event {line = line} {e = e} next rest) fit =
      lines_fit rest (one_more program before e fit (event_fits program process_numbers before line e next.next.form))
  lines_fit (Lines.applied says rest) fit = lines_fit rest fit
  lines_fit (Lines.order says tails) fit = fit

  module _ (text : List ℕ) (tells : HistoryTold) (h : IsHistoryText program text tells) where
    pub calls_fit : BegunFit (Fits program) tells.events
    calls_fit = lines_fit h.tells (none_begun program)

    pub history_opened : AreOpened program.variables tells.carried
    history_opened = opened program.variables h.opening

  pub front_fits : (events : List (Event ObjectCall Reply)) (n : ℕ) → BegunFit (Fits program) events → BegunFit (Fits program) (take n events)
  front_fits events n fit id call begun =
      let p = place_of (take n events) (Begin id call) begun in
      fit id call (contains_at events p.0 (Begin id call) (place_take n events p.0 (Begin id call) p.1).0)
