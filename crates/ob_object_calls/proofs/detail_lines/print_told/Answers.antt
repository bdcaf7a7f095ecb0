use Rattle.std.proofs.Common.{◌≡◌, ◌∙◌, ◌<◌, ℕ, List, length, ◌+◌, ◌++◌, get_or, set, ap, sym, arith, map, string_bytes, append_assoc, get_or-set_same}
use Rattle.std.specs.Iterator.Adapters.{zip_first, zip_second}
use Rattle.std.specs.Slice.Iter.{iter_rest}
use Rattle.std.proofs.lemmas.List.{get_or_read, length_push, length-map, length-set}
use Rattle.std.proofs.lemmas.List.Elements.{All-get_or}
use Rattle.std.proofs.lemmas.Slice.Zip.{zip_turn, zip_end}
use Rattle.std.proofs.Math.ListN.{get_or-map}
use Rattle.ob_interface.specs.View.{reply_of}
use Rattle.ob_object_calls.specs.DetailLines.{text_at, told_line, turns_line}
use Rattle.ob_object_calls.proofs.Printing.{made_few, HasPrinted-more, HasPrinted-all}
use Rattle.ob_text_words.specs.ReplyLines.{reply_line}
use Rattle.ob_object_calls.proofs.detail_lines.print_told.Goals as goal

pub overflow_add-index_mut : goal.overflow_add-index_mut
overflow_add-index_mut c =
    let turn =
    zip_turn c.args.callers.now c.args.replies.now c.loop-caller.yielded
    c.into_iter-caller-iterator.result c.loop-caller.caller-iterator c.next.new.self c.next.result
    (ap (λ z. iter_rest (zip_first z)) c.into_iter-caller-iterator.ensures.into_iter_gives ∙ ap iter_rest c.zip-caller-items.ensures.first ∙ c.iter.ensures.rest)
    (ap (λ z. iter_rest (zip_second z)) c.into_iter-caller-iterator.ensures.into_iter_gives ∙ c.zip-caller-items.ensures.second.0)
    c.loop-caller.yielded_by (c.in-Some.caller, c.in-Some.reply) c.in-Some.is c.next.ensures.steps in
    let p = c.in-Some.caller.now in
    let below : p < c.args.processes =
    rw (← turn.2 p) at (All-get_or (λ x. x < c.args.processes) c.args.callers.now (length c.loop-caller.yielded) p turn.0 c.requires) in
    let few = made_few _ _ _ _ _ _ _ c.loop-caller.invariant.printed p below in
    let in_range : p < length c.loop-caller.made.items = omega (arith, c.loop-caller.invariant.printed.long) in
    let read : c.index_mut.result.now ≡ get_or c.loop-caller.made.items p 0 = get_or_read _ _ _ in_range c.index_mut.ensures.value 0 in
    omega (arith, few, turn.0, c.iter.ensures.len, c.iter.ensures.bound)

together : (t r a b : List ℕ) → t ++ r ++ a ++ b ≡ t ++ (r ++ a ++ b)
together t r a b = simp append_assoc

pub loop-caller-preserved : goal.loop-caller-preserved
loop-caller-preserved c =
    let turn =
    zip_turn c.args.callers.now c.args.replies.now c.loop-caller.yielded
    c.into_iter-caller-iterator.result c.loop-caller.caller-iterator c.next.new.self c.next.result
    (ap (λ z. iter_rest (zip_first z)) c.into_iter-caller-iterator.ensures.into_iter_gives ∙ ap iter_rest c.zip-caller-items.ensures.first ∙ c.iter.ensures.rest)
    (ap (λ z. iter_rest (zip_second z)) c.into_iter-caller-iterator.ensures.into_iter_gives ∙ c.zip-caller-items.ensures.second.0)
    c.loop-caller.yielded_by (c.in-Some.caller, c.in-Some.reply) c.in-Some.is c.next.ensures.steps in
    let p = c.in-Some.caller.now in
    let below : p < c.args.processes =
    rw (← turn.2 p) at (All-get_or (λ x. x < c.args.processes) c.args.callers.now (length c.loop-caller.yielded) p turn.0 c.requires) in
    let in_range : p < length c.loop-caller.made.items = omega (arith, c.loop-caller.invariant.printed.long) in
    let read : c.index_mut.result.now ≡ get_or c.loop-caller.made.items p 0 = get_or_read _ _ _ in_range c.index_mut.ensures.value 0 in
    let number : c.index.result.now ≡ get_or c.loop-caller.made.items p 0 + 1 =
    get_or_read (set c.loop-caller.made.items p (c.index_mut.result.now + 1)) p _ (rw length-set in_range) c.index.ensures 0 ∙ get_or-set_same _ p _ 0 in_range ∙ ap (λ k. k + 1) read in
    let reply : reply_of c.in-Some.reply.now ≡ get_or (map reply_of c.args.replies.now) (length c.loop-caller.yielded) (reply_of c.in-Some.reply.now) =
    ap reply_of (turn.3 c.in-Some.reply.now) ∙ sym (get_or-map reply_of c.args.replies.now (length c.loop-caller.yielded) c.in-Some.reply.now) in
    let turns = c.args.beside.turns.now in
    let changes = map string_bytes c.args.beside.changes.now in
    let k = get_or c.loop-caller.made.items p 0 + 1 in
    let n = length c.loop-caller.yielded in
    let x = reply_of c.in-Some.reply.now in
    let line : string_bytes c.push_beside.new.text ≡ string_bytes c.loop-caller.text ++ told_line turns changes n p k x =
    c.in_ok-push_beside.ensures
    ∙ ap (λ t. t ++ text_at turns_line turns c.loop-caller.place ++ text_at (λ lines. lines) changes c.loop-caller.place)
    (c.in_ok-push_reply_line.ensures.ok ∙ ap (λ m. string_bytes c.loop-caller.text ++ reply_line p m x) number)
    ∙ ap (λ m. (string_bytes c.loop-caller.text ++ reply_line p k x) ++ text_at turns_line turns m ++ text_at (λ lines. lines) changes m) c.loop-caller.invariant.place
    ∙ together (string_bytes c.loop-caller.text) (reply_line p k x) (text_at turns_line turns n) (text_at (λ lines. lines) changes n) in
    record {
      printed =
          rw (length_push, line, read)
          (HasPrinted-more (told_line turns changes) _ _ _ _ _ _ c.loop-caller.invariant.printed p x below turn.0 (turn.2 p) (rw length-map turn.1) reply);
      place = rw length_push (ap (λ m. m + 1) c.loop-caller.invariant.place);
    }

pub overflow_add-place : goal.overflow_add-place
overflow_add-place c =
    let turn =
    zip_turn c.args.callers.now c.args.replies.now c.loop-caller.yielded
    c.into_iter-caller-iterator.result c.loop-caller.caller-iterator c.next.new.self c.next.result
    (ap (λ z. iter_rest (zip_first z)) c.into_iter-caller-iterator.ensures.into_iter_gives ∙ ap iter_rest c.zip-caller-items.ensures.first ∙ c.iter.ensures.rest)
    (ap (λ z. iter_rest (zip_second z)) c.into_iter-caller-iterator.ensures.into_iter_gives ∙ c.zip-caller-items.ensures.second.0)
    c.loop-caller.yielded_by (c.in-Some.caller, c.in-Some.reply) c.in-Some.is c.next.ensures.steps in
    omega (arith, c.loop-caller.invariant.place, turn.0, c.iter.ensures.len, c.iter.ensures.bound)

pub returns : goal.returns
returns c =
    let end = zip_end c.args.callers.now c.args.replies.now c.loop-caller.yielded
    c.into_iter-caller-iterator.result c.loop-caller.caller-iterator c.next.new.self c.next.result
    (ap (λ z. iter_rest (zip_first z)) c.into_iter-caller-iterator.ensures.into_iter_gives ∙ ap iter_rest c.zip-caller-items.ensures.first ∙ c.iter.ensures.rest)
    (ap (λ z. iter_rest (zip_second z)) c.into_iter-caller-iterator.ensures.into_iter_gives ∙ c.zip-caller-items.ensures.second.0)
    c.loop-caller.yielded_by c.in-None.is c.next.ensures.steps in
    HasPrinted-all _ _ _ _ _ _ _ c.loop-caller.invariant.printed (rw length-map end)
