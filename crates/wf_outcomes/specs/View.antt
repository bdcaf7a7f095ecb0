-- What is told, as the definitions see it.
use Rattle.std.specs.Prelude.{map}
use Rattle.ob_interface.specs.Call.{Reply}
use Rattle.ob_interface.specs.View.{reply_of}
use Rattle.wf_outcomes.specs.OutcomeOrders.{Told, CallTold, End}
use Rattle.wf_outcomes.specs.declared.all_replies.ToldCall.{ToldCall}
use Rattle.wf_outcomes.specs.declared.end_states.ToldEnd.{ToldEnd}
use Rattle.wf_outcomes.specs.declared.reply_orders.ToldReply.{ToldReply}

abbrev pub told_in : ToldReply → Told Reply
told_in told = record { reply = reply_of told.reply; behind = told.behind.items }

abbrev pub call_in : ToldCall → CallTold Reply
call_in told = record { id = told.id; replies = map told_in told.replies.items }

abbrev pub end_in : {State Meaning : Type 0} → (State → Meaning) → ToldEnd State → End Meaning
end_in meaning told = record { state = meaning told.state.now; order = told.order.items }
