-- What a call that was made stands for.
use Rattle.ob_interface.specs.Call as Objects
use Rattle.ob_mean.specs.View.{reply_of}
use Rattle.ob_mean.specs.declared.call.Reply.{Reply}
use Rattle.ob_object_calls.specs.MadeCalls as Calls
use Rattle.ob_object_calls.specs.declared.call_outcome.MadeCall.{MadeCall}
use Rattle.ob_meaning.specs.ByPositionStore.{Activation}
use Rattle.ob_store.specs.View.{state_of}
use Rattle.ob_store.specs.declared.state.State.{State}

abbrev pub made_of : MadeCall → Calls.MadeCall
made_of made = record { before = made.before.items; told = reply_of made.told; meant = reply_of made.meant }

-- the state and the reply to which it leads
abbrev pub step_of : (State × Reply) → (Activation × Objects.Reply)
step_of made = (state_of made.0, reply_of made.1)
