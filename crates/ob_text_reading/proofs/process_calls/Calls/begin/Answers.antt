use Rattle.std.proofs.Common.{◌≡◌, ◌++◌, ◌∷◌, [], ◌<◌, length}
use Rattle.wf_history.specs.History.{Begin, IsHistory}
use Rattle.wf_history.specs.View.{kept_call}
use Rattle.ob_text_reading.proofs.Seating.{seats_begun}
use Rattle.ob_text_reading.proofs.process_calls.Calls.begin.Goals as goal

pub push_begin-requires : goal.push_begin-requires
push_begin-requires c = rw (← c.self.view_is) at c.requires.next

pub invariant_of-self-2 : goal.invariant_of-self-2
invariant_of-self-2 c =
    let below : c.args.id.process < length c.self.inside.seats.items = rw (← c.self.view_is) at c.requires.below in
    let next : IsHistory (c.self.inside.history ++ Begin c.args.id (kept_call c.args.call) ∷ []) = rw (← c.self.view_is) at c.requires.next in
    let pushed : c.push_begin.new.self ≡ c.self.inside.history ++ Begin c.args.id (kept_call c.args.call) ∷ [] = c.in_ok-push_begin.ensures.ok in
    rw pushed (seats_begun c.self.inside.history c.self.inside.seats.items c.args.id (kept_call c.args.call) c.self.invariant below next)
