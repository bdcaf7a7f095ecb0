-- A possible reply, as the definitions see it.
use Rattle.ob_interface.specs.Call as Calls
use Rattle.ob_interface.specs.View.{reply_of}
use Rattle.wf_outcomes.specs.declared.call_replies.Possible.{Possible}
use Rattle.wf_outcomes.specs.Outcomes.{Had}

abbrev pub reply_in : Possible → Calls.Reply
reply_in p = reply_of p.reply

abbrev pub had_in : Possible → Had Calls.Reply
had_in p = record { reply = reply_of p.reply; place = p.place }
