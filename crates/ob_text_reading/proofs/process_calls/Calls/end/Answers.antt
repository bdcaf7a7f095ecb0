use Rattle.std.proofs.Common.{◌≡◌, ◌++◌, ◌∷◌, [], ◌<◌, length}
use Rattle.wf_history.specs.History.{End, IsHistory}
use Rattle.wf_history.specs.View.{kept_reply}
use Rattle.ob_text_reading.proofs.Seating.{seats_ended}
use Rattle.ob_text_reading.proofs.process_calls.Calls.end.Goals as goal

pub push_end-requires : goal.push_end-requires
push_end-requires c = rw (← c.self.view_is) at c.requires.next

pub invariant_of-self-2 : goal.invariant_of-self-2
invariant_of-self-2 c =
    let below : c.args.id.process < length c.self.inside.seats.items = rw (← c.self.view_is) at c.requires.below in
    let next : IsHistory (c.self.inside.history ++ End c.args.id (kept_reply c.args.reply) ∷ []) = rw (← c.self.view_is) at c.requires.next in
    let pushed : c.push_end.new.self ≡ c.self.inside.history ++ End c.args.id (kept_reply c.args.reply) ∷ [] = c.in_ok-push_end.ensures.ok in
    rw pushed (seats_ended c.self.inside.history c.self.inside.seats.items c.args.id (kept_reply c.args.reply) c.self.invariant below next)
