use Rattle.std.proofs.Common.{◌≡◌, ◌∙◌, ◌++◌, ap, ap₂, sym, length, map, get_or, string_bytes}
use Rattle.std.proofs.lemmas.List.{length-map, length_push}
use Rattle.std.proofs.lemmas.Slice.Zip.{zip_turn, zip_end}
use Rattle.std.proofs.Math.ListN.{get_or-map}
use Rattle.std.specs.Iterator.Adapters.{zip_first, zip_second}
use Rattle.std.specs.Slice.Iter.{iter_rest}
use Rattle.ob_object_calls.specs.DetailLines.{line_changed}
use Rattle.ob_object_calls.proofs.Both.{both_all, both_more}
use Rattle.ob_object_calls.proofs.changes.lines_changed.Goals as goal

pub loop-old-preserved : goal.loop-old-preserved
loop-old-preserved c =
    let turn =
    zip_turn c.args.before.now c.args.after.now c.loop-old.yielded
    c.into_iter-old-iterator.result c.loop-old.old-iterator c.next.new.self c.next.result
    (ap (λ z. iter_rest (zip_first z)) c.into_iter-old-iterator.ensures.into_iter_gives ∙ ap iter_rest c.zip-old-items.ensures.first ∙ c.iter.ensures.rest)
    (ap (λ z. iter_rest (zip_second z)) c.into_iter-old-iterator.ensures.into_iter_gives ∙ c.zip-old-items.ensures.second.0)
    c.loop-old.yielded_by (c.in-Some.old, c.in-Some.new) c.in-Some.is c.next.ensures.steps in
    let n = length c.loop-old.yielded in
    let old = c.in-Some.old.now in
    let new = c.in-Some.new.now in
    let first : string_bytes old ≡ get_or (map string_bytes c.args.before.now) n (string_bytes old) =
    ap string_bytes (turn.2 _) ∙ sym (get_or-map string_bytes c.args.before.now n old) in
    let second : string_bytes new ≡ get_or (map string_bytes c.args.after.now) n (string_bytes new) =
    ap string_bytes (turn.3 _) ∙ sym (get_or-map string_bytes c.args.after.now n new) in
    rw length_push
    (both_more line_changed (map string_bytes c.args.before.now) (map string_bytes c.args.after.now) _ _ _ n (string_bytes old) (string_bytes new)
    (rw length-map turn.0) first (rw length-map turn.1) second
    (c.in_ok-push_changed.ensures
    ∙ ap₂ (λ a b. string_bytes c.loop-old.text ++ line_changed a b) c.deref.ensures c.deref-in-loop-old.ensures)
    c.loop-old.invariant)

pub returns : goal.returns
returns c =
    let end = zip_end c.args.before.now c.args.after.now c.loop-old.yielded
    c.into_iter-old-iterator.result c.loop-old.old-iterator c.next.new.self c.next.result
    (ap (λ z. iter_rest (zip_first z)) c.into_iter-old-iterator.ensures.into_iter_gives ∙ ap iter_rest c.zip-old-items.ensures.first ∙ c.iter.ensures.rest)
    (ap (λ z. iter_rest (zip_second z)) c.into_iter-old-iterator.ensures.into_iter_gives ∙ c.zip-old-items.ensures.second.0)
    c.loop-old.yielded_by c.in-None.is c.next.ensures.steps in
    both_all line_changed (map string_bytes c.args.before.now) (map string_bytes c.args.after.now) _ _ (length c.loop-old.yielded) (rw (length-map, length-map) end) c.loop-old.invariant
