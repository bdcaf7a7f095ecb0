-- What there is of calls before any was made, and the text of their record.
use Rattle.std.proofs.Common.{◌≡◌, ◌∙◌, ◌<◌, ℕ, Bool, true, false, List, [], ◌++◌, codes, replicate, string_bytes, refl, sym, ap, append_assoc}
use Rattle.std.specs.List.{flat_map}
use Rattle.std.proofs.lemmas.List.{get_or-replicate}
use Rattle.std.proofs.lemmas.List.Elements.{All-nil}
use Rattle.ob_checked.specs.Exports.{signatures}
use Rattle.ob_interface.specs.Export.{CallFits}
use Rattle.ob_object_live.specs.Living.{Ground, IsAt, callers, events_behind, ground_of, order_behind, record_at, replies_at, state_at, title_of, told_text}
use Rattle.ob_object_live.specs.declared.live_parts.Live.{Live}
use Rattle.ob_store.specs.View.{state_of}
use Rattle.ob_text_record.specs.Record.{carried_from}
use Rattle.ob_meaning.specs.ByPositionStore.{Activation}
use Rattle.ob_text_record.specs.RecordText.{carried_text, event_text, head_text, ids_text, record_text, title_text}
use Rattle.ob_text_record.specs.Variables.{state_text}
use Rattle.ob_text_words.specs.ScriptCalls.{ScriptCall, object_call}

pub uncalled : (g : Ground) (l : Live) → ground_of l.ground ≡ g → state_of l.state ≡ g.opening → l.made.items ≡ replicate g.processes 0 →
    string_bytes l.events ≡ [] → string_bytes l.order ≡ [] → IsAt g [] l
uncalled g l same state made events order = record {
  ground = same;
  state = state;
  counted = λ p below. rw (made, get_or-replicate) refl;
  events = events;
  order = order;
  below = All-nil (λ (c : ScriptCall). c.process < g.processes);
  fit = All-nil (λ (c : ScriptCall). CallFits (signatures g.program) (object_call c));
}

-- ---- the text of the record

title_is : (carried : Bool) (opening : Activation) → title_of carried ≡ title_text (carried_from carried opening)
title_is true opening = refl
title_is false opening = refl

-- the lines of the order and of the schedule, one behind the other
joined : (before order behind : List ℕ) → before ++ (codes "O" ++ order ++ codes "\nS\n") ++ behind ≡ before ++ (codes "O" ++ order ++ codes "\n") ++ codes "S\n" ++ behind
joined before order behind =
    ap (λ t. t ++ behind)
    (ap (λ t. before ++ t) (sym (append_assoc (codes "O" ++ order) (codes "\n") (codes "S\n")))
    ∙ sym (append_assoc before (codes "O" ++ order ++ codes "\n") (codes "S\n")))

pub record_is : (g : Ground) (calls : List ScriptCall) (l : Live) → IsAt g calls l → (text : List ℕ) →
    text ≡ told_text g (string_bytes l.events) (string_bytes l.order) (state_of l.state) → text ≡ record_text g.program (record_at g calls)
record_is g calls l at text is =
    let events = flat_map (event_text (signatures g.program)) (events_behind [] calls (replies_at g calls)) in
    let order = ids_text (order_behind [] (callers calls)) in
    let head = head_text g.processes g.budget in
    let carried = carried_text g.program (carried_from g.carried g.opening) in
    is
    ∙ ap (λ e. told_text g e (string_bytes l.order) (state_of l.state)) at.events
    ∙ ap (λ o. told_text g events o (state_of l.state)) at.order
    ∙ ap (λ s. told_text g events order s) at.state
    ∙ ap (λ t. t ++ head ++ carried ++ events ++ (codes "O" ++ order ++ codes "\nS\n") ++ state_text g.program.variables (state_at g calls)) (title_is g.carried g.opening)
    ∙ joined (title_text (carried_from g.carried g.opening) ++ head ++ carried ++ events) order (state_text g.program.variables (state_at g calls))
