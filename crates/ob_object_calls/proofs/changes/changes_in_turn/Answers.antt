use Rattle.std.proofs.Common.{◌≡◌, ◌∙◌, ◌<◌, ◌+◌, ℕ, List, ap, ap₂, arith, get_or, length, map, string_bytes, subst, sym}
use Rattle.std.proofs.Math.ListN.{get_or-map}
use Rattle.std.proofs.lemmas.List.{length-map, map-append}
use Rattle.ob_code_calls.specs.Standing.{IsMade}
use Rattle.ob_interface.specs.Call.{ObjectCall, Reply}
use Rattle.ob_interface.specs.View.{reply_of}
use Rattle.ob_object_compile.specs.View.{object_in}
use Rattle.ob_object_calls.proofs.SequenceByCode.{HasChanged, asked_in, changed_all, changed_more, changed_none, laid_out, next_state}
use Rattle.ob_object_calls.proofs.changes.changes_in_turn.Goals as goal
use Rattle.ob_object_calls.specs.DetailLines.{lines_at, lines_changed}
use Rattle.ob_meaning.specs.ByPositionStore.{Activation}
use Rattle.ob_text_words.specs.ScriptCalls.{object_call, script_call_of}
use Rattle.ob_text_words.specs.declared.script_call.ScriptCall.{ScriptCall}
use Rattle.ob_typing.specs.Program.{Program}

pub loop-call-init : goal.loop-call-init
loop-call-init c =
    let o = object_in c.args.object.now in
    let is = c.program-program.ensures.program ∙ c.checked.ensures.program in
    subst (HasChanged o.program o.engine.budget o.opening (asked_in c.args.calls.now) 0 c.in_ok-coded.coded (map string_bytes c.in_ok-lines.lines.items))
    (sym (ap (map string_bytes) c.in_ok-changes.ensures.items))
    (changed_none o.program o.engine.budget o.opening (asked_in c.args.calls.now) c.in_ok-coded.coded (map string_bytes c.in_ok-lines.lines.items) c.in_ok-coded.ensures
    (c.in_ok-lines.ensures ∙ ap₂ (λ (p : Program) (s : Activation). lines_at p.variables s) is c.opening.ensures))

pub state-requires : goal.state-requires
state-requires c =
    let o = object_in c.args.object.now in
    let calls = c.args.calls.now in
    let asked = object_call (script_call_of c.call-item.result) in
    let made = c.loop-call.invariant.made in
    let is = subst (λ (x : ObjectCall). IsMade o.program o.engine.budget x made.state c.call.new.self (reply_of c.call.result)) c.in_ok-asked.ensures
    (c.call.ensures o.program o.engine.budget made.state made.stands) in
    laid_out o.program o.engine.budget o.opening (asked_in calls) _ (c.layout.ensures ∙ c.requires.sound.layout_is) (next_state o.program o.engine.budget o.opening (asked_in calls) made asked) c.call.new.self is.stands

pub loop-call-preserved : goal.loop-call-preserved
loop-call-preserved c =
    let o = object_in c.args.object.now in
    let calls = c.args.calls.now in
    let n = c.loop-call.call-index in
    let call = c.call-item.result in
    let asked = object_call (script_call_of call) in
    let h = c.loop-call.invariant in
    let reply = reply_of c.call.result in
    let below : n < length (asked_in calls) = rw length-map c.loop-call-test.true in
    let here = ap (λ (x : ScriptCall). object_call (script_call_of x)) c.call-item.is ∙ sym (get_or-map (λ (x : ScriptCall). object_call (script_call_of x)) calls n call) in
    let is = subst (λ (x : ObjectCall). IsMade o.program o.engine.budget x h.made.state c.call.new.self reply) c.in_ok-asked.ensures
    (c.call.ensures o.program o.engine.budget h.made.state h.made.stands) in
    let next = next_state o.program o.engine.budget o.opening (asked_in calls) h.made asked in
    let state = c.in_ok-state.ensures o.program o.engine.budget next (c.layout.ensures ∙ c.requires.sound.layout_is) is.stands in
    let program = c.program-program.ensures.program ∙ c.checked.ensures.program in
    let after = c.in_ok-after.ensures ∙ ap₂ (λ (p : Program) (s : Activation). lines_at p.variables s) program state in
    let text = c.in_ok-lines_changed.ensures ∙ ap₂ lines_changed (ap (map string_bytes) c.deref.ensures.value) (ap (map string_bytes) c.deref-in-loop-call.ensures.value) in
    subst (HasChanged o.program o.engine.budget o.opening (asked_in calls) (n + 1) c.call.new.self (map string_bytes c.in_ok-after.after.items))
    (sym (ap (map string_bytes) c.in_ok-push.ensures.items ∙ map-append string_bytes c.loop-call.changes.items _))
    (changed_more o.program o.engine.budget o.opening (asked_in calls) n c.loop-call.coded c.call.new.self (map string_bytes c.loop-call.lines.items) (map string_bytes c.in_ok-after.after.items)
    (map string_bytes c.loop-call.changes.items) (string_bytes c.in_ok-lines_changed.field-0) h asked reply below here is after text)

pub returns : goal.returns
returns c =
    let o = object_in c.args.object.now in
    let calls = c.args.calls.now in
    let all = length-map calls (λ (x : ScriptCall). object_call (script_call_of x)) in
    changed_all o.program o.engine.budget o.opening (asked_in calls) c.loop-call.call-index c.loop-call.coded (map string_bytes c.loop-call.lines.items)
    (map string_bytes c.loop-call.changes.items) c.loop-call.invariant (omega (arith, all))
