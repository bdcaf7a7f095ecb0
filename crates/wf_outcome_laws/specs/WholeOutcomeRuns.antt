-- Whole outcomes, and runs of scripts in which all calls end.
use Rattle.std.specs.Prelude.{◌≡◌, ◌-◌, List, slice_get, Some, Contains}
use Rattle.wf_history.specs.declared.event.CallId.{CallId}
use Rattle.wf_history.specs.History.{Event, End}
use Rattle.wf_history.specs.Legal.{IsLegal}
use Rattle.wf_outcome_laws.specs.ScriptRuns.{IsRunAlone, IsRunOfScripts}
use Rattle.wf_whole_outcomes.specs.Tellings.{Gives, Telling, replies_to}

-- the reply of each call in the history is the one that is told of it
abbrev pub HasReplies : {State Call Reply : Type 0} → List (Event Call Reply) → Telling State Reply → Type 0
HasReplies {State} {Call} {Reply} history t = (id : CallId) (reply : Reply) → Contains history (End id reply) → slice_get (replies_to t id.process) (id.number - 1) ≡ Some reply

module _ {State Call Reply : Type 0} (Effect : Call → State → State → Reply → Type 0) (scripts : List (List Call)) (opening : State) where
  -- the order gives a whole outcome: the replies of the run, and the state that the order leads to
  pub record GivesRun (history : List (Event Call Reply)) (order : List CallId) (last : State) : Type 0 where
    pub told : Telling State Reply
    pub gives : Gives Effect scripts opening order told
    pub ends : told.state ≡ last
    pub replies : HasReplies history told

  -- so does each legal order of a run of the scripts in which all calls end
  abbrev pub RunsGiveWholes : Type 0
  RunsGiveWholes = (history : List (Event Call Reply)) (order : List CallId) (last : State) → IsRunOfScripts scripts history → IsLegal Effect opening history order last → GivesRun history order last

  -- each whole outcome is that of such a run, of one in which the calls run alone in the order that gives it
  abbrev pub WholesAreOfRuns : Type 0
  WholesAreOfRuns =
      (order : List CallId) (t : Telling State Reply) → Gives Effect scripts opening order t →
      (history : List (Event Call Reply)) × IsRunAlone Effect scripts opening order t.state history × HasReplies history t
