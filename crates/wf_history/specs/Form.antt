-- How an event is kept. No public clause cites this module.
use Rattle.std.specs.Prelude.{[], ◌∷◌}
use Rattle.ob_interface.specs.Call.{ObjectCall, Reply, Answers, Trapped}
use Rattle.wf_history.specs.declared.event.CallId.{CallId}
use Rattle.wf_history.specs.declared.event.ShortId.{ShortId}
use Rattle.wf_history.specs.declared.event.Form as Rust
use Rattle.wf_history.specs.declared.event.Form.TheVariants as Forms
use Rattle.wf_history.specs.declared.wide_event.AnyEvent.{AnyEvent}
use Rattle.wf_history.specs.declared.wide_event.AnyEvent.TheVariants as Events
use Rattle.wf_history.specs.History.{Event, Begin, Applied, End}
use Rattle.wf_history.specs.Kept.{KeptEvent}
use Rattle.wf_history.specs.View.{kept_call, kept_reply}

abbrev pub long_id : ShortId → CallId
long_id short = record { process = short.process; number = short.number }

abbrev pub any_event : AnyEvent → Event ObjectCall Reply
any_event (Events.Begin id call) = Begin id (kept_call call)
any_event (Events.Applied ids) = Applied ids.items
any_event (Events.End id reply) = End id (kept_reply reply)

abbrev pub formed_event : Rust.Form → Event ObjectCall Reply
formed_event (Forms.Begin process proc number args) = Begin (record { process = process; number = number }) (record { export = proc; arguments = args.items })
formed_event (Forms.AppliedOne id) = Applied (id ∷ [])
formed_event (Forms.Done process number values) = End (record { process = process; number = number }) (Answers values.items)
formed_event (Forms.Trapped process trap number) = End (record { process = process; number = number }) (Trapped trap)
formed_event (Forms.Wide wide) = any_event wide.event.value

abbrev pub formed : Rust.Form → KeptEvent
formed form = record { event = formed_event form }
