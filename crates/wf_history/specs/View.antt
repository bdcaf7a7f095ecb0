-- What events stand for: no pointers, and vectors as lists.
use Rattle.ob_interface.specs.Call.{ObjectCall, Reply, Answers, Trapped}
use Rattle.wf_history.specs.declared.event.Event as Rust
use Rattle.wf_history.specs.declared.kept.KeptCall.{KeptCall}
use Rattle.wf_history.specs.declared.kept.KeptReply.{KeptReply}
use Rattle.wf_history.specs.declared.kept.KeptReply.TheVariants as Kept
use Rattle.wf_history.specs.declared.seen_event.SeenCall.{SeenCall}
use Rattle.wf_history.specs.declared.seen_event.SeenReply.{SeenReply}
use Rattle.wf_history.specs.declared.seen_event.SeenReply.TheVariants as Replies
use Rattle.wf_history.specs.declared.seen_event.SeenEvent.{SeenEvent}
use Rattle.wf_history.specs.declared.seen_event.SeenEvent.TheVariants as Seen
use Rattle.wf_history.specs.History.{Event, Begin, Applied, End}

abbrev pub kept_call : KeptCall → ObjectCall
kept_call c = record { export = c.proc; arguments = c.args.items }

abbrev pub kept_reply : KeptReply → Reply
kept_reply (Kept.Done values) = Answers values.items
kept_reply (Kept.Trap number) = Trapped number

abbrev pub event_of : Rust.Event → Event ObjectCall Reply
event_of e = e.event

-- what is looked at

abbrev pub seen_call : SeenCall → ObjectCall
seen_call c = record { export = c.proc; arguments = c.args.now.items }

abbrev pub seen_reply : SeenReply → Reply
seen_reply (Replies.Done values) = Answers values.now.items
seen_reply (Replies.Trap number) = Trapped number

abbrev pub seen_event : SeenEvent → Event ObjectCall Reply
seen_event (Seen.Begin id call) = Begin id (seen_call call)
seen_event (Seen.Applied ids) = Applied ids.now
seen_event (Seen.End id reply) = End id (seen_reply reply)
