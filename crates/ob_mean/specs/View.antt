-- What calls and replies stand for.
use Rattle.ob_interface.specs.Call as Object
use Rattle.ob_meaning.specs.ByPositionObject as Effects
use Rattle.ob_store.specs.declared.state.State.{State}
use Rattle.ob_store.specs.View.{state_of}
use Rattle.ob_mean.specs.declared.call.Call.{Call}
use Rattle.ob_mean.specs.declared.call.Reply.{Reply}
use Rattle.ob_mean.specs.declared.call.Reply.TheVariants as Replies

abbrev pub call_of : Call → Object.ObjectCall
call_of c = record { export = c.export; arguments = c.arguments.items }

abbrev pub reply_of : Reply → Object.Reply
reply_of (Replies.Answers values) = Object.Answers values.items
reply_of (Replies.Trapped k) = Object.Trapped k

-- what a call left and answered
abbrev pub effect_in : State × Reply → Effects.Effect
effect_in (state, reply) = record { state = state_of state; reply = reply_of reply }
