-- The lines of outcomes: E, O and V lines are those of records.
use Rattle.std.specs.Prelude.{ℕ, List, ◌++◌}
use Rattle.std.specs.List.{flat_map}
use Rattle.ob_interface.specs.Call.{Reply}
use Rattle.ob_object_outcomes.specs.OutcomesView.{Outcomes}
use Rattle.ob_meaning.specs.ByPositionStore.{Activation}
use Rattle.ob_text_words.specs.ReplyLines.{reply_line}
use Rattle.ob_text_record.specs.RecordText.{order_text}
use Rattle.ob_text_record.specs.Variables.{state_text}
use Rattle.ob_typing.specs.Program.{Variable}
use Rattle.wf_history.specs.declared.event.CallId.{CallId}
use Rattle.wf_outcomes.specs.OutcomeOrders.{CallTold, End, Told}

-- a reply that a call may have, and behind it the calls that lead to it
abbrev pub told_lines : CallId → Told Reply → List ℕ
told_lines id told = reply_line id.process id.number told.reply ++ order_text told.behind

-- each reply that a call may have
abbrev pub call_lines : CallTold Reply → List ℕ
call_lines told = flat_map (told_lines told.id) told.replies

-- a state in which all calls may end, and behind it an order that leads to it
abbrev pub end_lines : List Variable → End Activation → List ℕ
end_lines variables end = state_text variables end.state ++ order_text end.order

-- what each call may answer, and how all may end
abbrev pub outcome_lines : List Variable → Outcomes → List ℕ
outcome_lines variables o = flat_map call_lines o.calls ++ flat_map (end_lines variables) o.ends
