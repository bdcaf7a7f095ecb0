use Rattle.std.proofs.Common.{◌≡◌, ◌∙◌, ◌<◌, ◌+◌, ◌++◌, ℕ, List, ap, arith, get_or, get_or-set_same, length, set, string_bytes, subst, sym}
use Rattle.std.proofs.lemmas.List.{get_or_read, length-set}
use Rattle.std.proofs.lemmas.List.Elements.{All-get_or}
use Rattle.ob_code_calls.specs.Standing.{IsMade}
use Rattle.ob_interface.specs.Call.{ObjectCall}
use Rattle.ob_interface.specs.View.{reply_of}
use Rattle.ob_object_compile.specs.View.{object_in}
use Rattle.ob_object_calls.proofs.SequenceByCode.{HasTold, told_more}
use Rattle.ob_object_calls.proofs.Printing.{made_few}
use Rattle.ob_text_words.specs.ReplyLines.{reply_line}
use Rattle.ob_text_words.specs.declared.script_call.ScriptCall.{ScriptCall}
use Rattle.ob_object_calls.proofs.sequential.replies_text.Goals as goal

pub overflow_add-index_mut : goal.overflow_add-index_mut
overflow_add-index_mut c =
    let o = object_in c.args.object.now in
    let call = c.call-item.result in
    let p = call.process in
    let made = c.loop-call.made.items in
    let below : p < o.processes =
    subst (λ (x : ScriptCall). x.process < o.processes) (sym c.call-item.is)
    (All-get_or (λ (x : ScriptCall). x.process < o.processes) c.args.calls.now c.loop-call.call-index call c.loop-call-test.true c.requires.processes) in
    let few = made_few _ _ _ _ _ _ _ c.loop-call.invariant.printed p below in
    let in_range : p < length made = omega (arith, below, c.loop-call.invariant.printed.long) in
    let read : c.index_mut.result.now ≡ get_or made p 0 = get_or_read made p _ in_range c.index_mut.ensures.value 0 in
    omega (arith, few, read, c.loop-call-test.true)

pub loop-call-preserved : goal.loop-call-preserved
loop-call-preserved c =
    let o = object_in c.args.object.now in
    let calls = c.args.calls.now in
    let n = c.loop-call.call-index in
    let call = c.call-item.result in
    let p = call.process in
    let made = c.loop-call.made.items in
    let text = string_bytes c.loop-call.text in
    let told = c.loop-call.invariant in
    let next = c.call-reply.new.self in
    let reply = reply_of c.call-reply.result in
    let below : p < o.processes =
    subst (λ (x : ScriptCall). x.process < o.processes) (sym c.call-item.is)
    (All-get_or (λ (x : ScriptCall). x.process < o.processes) calls n call c.loop-call-test.true c.requires.processes) in
    let in_range : p < length made = omega (arith, below, told.printed.long) in
    let read : c.index_mut.result.now ≡ get_or made p 0 = get_or_read made p _ in_range c.index_mut.ensures.value 0 in
    let number : c.index.result.now ≡ get_or made p 0 + 1 =
    get_or_read (set made p (c.index_mut.result.now + 1)) p _ (rw length-set in_range) c.index.ensures 0 ∙ get_or-set_same _ p _ 0 in_range ∙ ap (λ k. k + 1) read in
    let line : string_bytes c.push_reply_line.new.text ≡ text ++ reply_line p (get_or made p 0 + 1) reply =
    c.in_ok-push_reply_line.ensures.ok ∙ ap (λ m. text ++ reply_line p m reply) number in
    let is = subst (λ (x : ObjectCall). IsMade o.program o.engine.budget x told.calls_made.state next reply) c.in_ok-asked.ensures
    (c.call-reply.ensures o.program o.engine.budget told.calls_made.state told.calls_made.stands) in
    let more = told_more o calls n c.loop-call.coded next text made told call reply c.loop-call-test.true c.call-item.is below is in
    subst (λ (t : List ℕ). HasTold o calls (n + 1) next t (set made p (c.index_mut.result.now + 1))) (sym line)
    (subst (λ (m : ℕ). HasTold o calls (n + 1) next (text ++ reply_line p (get_or made p 0 + 1) reply) (set made p m)) (sym (ap (λ k. k + 1) read)) more)
