use Rattle.std.proofs.Common.{◌∙◌, ◌<◌, List, arith, ap, length, map, subst, sym}
use Rattle.std.proofs.lemmas.List.{with_items_is}
use Rattle.std.specs.Prelude.{ℤ}
use Rattle.std.specs.Vec.{with_items}
use Rattle.ob_code_calls.specs.Calls.{IsMade, block_behind}
use Rattle.ob_code_calls.specs.Parts.{parts_in}
use Rattle.ob_code_calls.specs.declared.block_calls.CodeCalls.{CodeCalls}
use Rattle.ob_code_correct.specs.Compiled.{IsFitting}
use Rattle.ob_code_correct.specs.Parts.{IsLawfulFor}
use Rattle.ob_code_calls.proofs.Again.{left_more, noted_more}
use Rattle.ob_code_calls.proofs.Ended.{length_is}
use Rattle.ob_code_calls.proofs.Stands.{still_lawful}
use Rattle.ob_interface.specs.Call.{ObjectCall}
use Rattle.ob_interface.specs.View.{call_of, reply_of}
use Rattle.ob_interface.specs.declared.call.Reply.{Reply}
use Rattle.ob_code_calls.proofs.standing_state.CodedState.call.Goals as goal

pub made_again-requires-clause-words : goal.made_again-requires-clause-words
made_again-requires-clause-words c =
    let kept = c.keep.new.self in
    let long = length_is (parts_in kept.calls) kept.block.items kept.lawful in
    omega (arith, long, kept.block.ok.0, c.as_mut_slice-block-in-Trap.ensures.len)

pub invariant_of-self-2 : goal.invariant_of-self-2
invariant_of-self-2 c =
    let kept = c.keep.new.self in
    let parts = parts_in kept.calls in
    let call = call_of c.args.call.now in
    let before = c.as_mut_slice-block.result.now in
    let left = c.call_through-reply.new.block in
    let after = with_items_is kept.block left (omega (arith, kept.block.ok.0)) in
    let after_length = ap (λ (ws : List ℤ). length ws) after in
    let done = ap (λ (r : Reply). block_behind (reply_of r) before left) c.in_default.is in
    let noted = map call_of c.noted-self.new.since.items in
    let since = map call_of kept.since.items in
    record {
      room_is = c.call_through-reply.ensures.room;
      lawful =
          subst (λ (ws : List ℤ). ∥ IsLawfulFor parts ws ∥₁) (sym after)
          (still_lawful parts call before left (reply_of c.call_through-reply.result.0)
          (subst (λ (ws : List ℤ). ∥ IsLawfulFor parts ws ∥₁) (sym c.as_mut_slice-block.ensures.value) kept.lawful)
          (λ program state compiled encodes. subst (λ (ws : List ℤ). IsMade program parts.budget call state ws (reply_of c.call_through-reply.result.0)) done
          (c.call_through-reply.ensures.made program state compiled encodes)));
      as_long = kept.as_long ∙ sym (ap (λ (ws : List ℤ). length ws) after ∙ omega (arith, kept.block.ok.0));
      fit = noted_more (λ (x : ObjectCall). ∥ IsFitting parts.exports x ∥₁) since noted call c.noted-self.ensures.either kept.fit ∣ subst (λ (k : CodeCalls). IsFitting (parts_in k).exports call) (sym c.keep.ensures.calls) c.requires ∣₁;
      again = λ few. after ∙ left_more parts kept.kept.items before left since noted call (c.as_mut_slice-block.ensures.value ∙ c.keep.ensures.again) c.call_through-reply.ensures.left (c.noted-self.ensures.noted (let fewer : c.noted-self.result < length (with_items kept.block left).items = few in omega (arith, fewer, after_length, kept.block.ok.0)));
    }
