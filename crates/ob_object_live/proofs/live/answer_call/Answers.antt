use Rattle.std.proofs.Common.{◌≡◌, ◌∙◌, ◌<◌, ◌+◌, ℕ, Option, None, Some, ap, length, refl, subst, sym}
use Rattle.std.proofs.lemmas.List.{get_or_read}
use Rattle.std.proofs.lemmas.Option.{same_Some}
use Rattle.std.specs.Option.{SomeIff}
use Rattle.ob_checked.specs.View.{program_of}
use Rattle.ob_mean.specs.View.{effect_in, reply_of}
use Rattle.ob_object_live.proofs.CallMade.{one_more}
use Rattle.ob_object_live.specs.Living.{end_text, ground_of}
use Rattle.ob_meaning.specs.ByPositionObject.{effect}
use Rattle.ob_store.specs.View.{state_of}
use Rattle.ob_text_words.specs.ScriptCalls.{object_call, script_call_of}
use Rattle.wf_history.specs.declared.event.CallId.{CallId}
use Rattle.ob_object_live.proofs.live.answer_call.Goals as goal

some_is : (o : Option ℕ) (P : Type 0) (value x : ℕ) → o ≡ Some x → SomeIff o P value → x ≡ value
some_is None P value x e h = absurd (cc)
some_is (Some y) P value x e h = sym (same_Some y x e) ∙ h.1

pub returns-clause-more : goal.returns-clause-more
returns-clause-more c before at =
    let l = c.args.live in
    let g = ground_of l.ground in
    let call = script_call_of c.args.call.now in
    let p = c.args.call.now.process in
    let within : p < length l.made.items = subst (λ (n : ℕ). p < n) (sym (sym l.made.ok.0 ∙ l.each)) c.requires.below in
    let number = some_is c.checked_add.result _ _ c.in-Some.number c.in-Some.is c.checked_add.ensures ∙ ap (λ (k : ℕ). k + 1) (get_or_read _ _ _ within c.index.ensures 0) in
    let id : CallId = record { process = p; number = c.in-Some.number } in
    let gives =
    ap (λ q. effect q (object_call call) g.budget (state_of l.state)) (sym c.program.ensures.program)
    ∙ ap (λ k. effect (program_of c.program.result.now) k g.budget (state_of l.state)) (sym c.in_ok-asked.ensures)
    ∙ c.in_ok-state.ensures in
    record {
      line = end_text id (reply_of c.in_ok-state.reply);
      appended = c.in_ok-push_reply.ensures;
      made =
          one_more g before l at call c.in-Some.number number c.requires.below (effect_in (c.in_ok-state.state, c.in_ok-state.reply)) gives _
          refl refl refl within c.requires.fit (rw c.exports.ensures at c.in_ok-push_call.ensures) c.in_ok-push_next.ensures _ refl;
    }
