use Rattle.std.proofs.Common.{◌≡◌, ◌∙◌, ◌<◌, ℕ, min, [], ◌∷◌, ◌++◌, ap, sym, length, map, get_or, subst, string_bytes}
use Rattle.std.proofs.lemmas.List.{length-map, length_push, map-append}
use Rattle.std.proofs.lemmas.Slice.Zip.{zip_turn, zip_end}
use Rattle.std.proofs.Math.ListN.{get_or-map}
use Rattle.std.specs.Iterator.Adapters.{zip_first, zip_second}
use Rattle.std.specs.Slice.Iter.{iter_rest}
use Rattle.ob_checked.specs.View.{program_of, table_of, variable_of}
use Rattle.ob_meaning.specs.ByPositionStore.{Holds, value_held}
use Rattle.ob_store.specs.View.{state_of, value_in}
use Rattle.ob_text_record.specs.Variables.{variable_line}
use Rattle.ob_object_calls.proofs.Both.{both_all, both_more}
use Rattle.ob_object_calls.proofs.changes.state_lines.Goals as goal

pub loop-variable-preserved : goal.loop-variable-preserved
loop-variable-preserved c =
    let turn =
    zip_turn c.args.program.now.variables.items c.values.result.now c.loop-variable.yielded
    c.into_iter-variable-iterator.result c.loop-variable.variable-iterator c.next.new.self c.next.result
    (ap (λ z. iter_rest (zip_first z)) c.into_iter-variable-iterator.ensures.into_iter_gives ∙ ap iter_rest c.zip-variable-items.ensures.first ∙ c.iter.ensures.rest ∙ c.deref.ensures.value)
    (ap (λ z. iter_rest (zip_second z)) c.into_iter-variable-iterator.ensures.into_iter_gives ∙ c.zip-variable-items.ensures.second.0)
    c.loop-variable.yielded_by (c.in-Some.variable, c.in-Some.value) c.in-Some.is c.next.ensures.steps in
    let types = table_of c.args.program.now.types in
    let n = length c.loop-variable.yielded in
    let v = c.in-Some.variable.now in
    let w = c.in-Some.value.now in
    let first : variable_of types v ≡ get_or (map (variable_of types) c.args.program.now.variables.items) n (variable_of types v) =
    ap (variable_of types) (turn.2 _) ∙ sym (get_or-map (variable_of types) c.args.program.now.variables.items n v) in
    let second : Holds (value_in w) ≡ get_or (state_of c.args.state.now) n (Holds (value_in w)) =
    subst (λ s. Holds (value_in w) ≡ get_or s n (Holds (value_in w))) c.values.ensures
    (ap (λ u. Holds (value_in u)) (turn.3 _) ∙ sym (get_or-map (λ u. Holds (value_in u)) c.values.result.now n w)) in
    let long : length c.values.result.now ≡ length (state_of c.args.state.now) = sym (length-map c.values.result.now (λ u. Holds (value_in u))) ∙ ap length c.values.ensures in
    rw length_push
    (both_more (λ variable held. variable_line variable (value_held held) ∷ []) (program_of c.args.program.now).variables (state_of c.args.state.now)
    (map string_bytes c.loop-variable.lines.items) _ _ n (variable_of types v) (Holds (value_in w))
    (rw length-map turn.0) first (subst (λ (m : ℕ). n < m) long turn.1) second
    (ap (map string_bytes) c.in_ok-push.ensures.items ∙ map-append string_bytes c.loop-variable.lines.items _ ∙ ap (λ t. map string_bytes c.loop-variable.lines.items ++ t ∷ []) c.in_ok-line_of.ensures)
    c.loop-variable.invariant)

pub returns : goal.returns
returns c =
    let end = zip_end c.args.program.now.variables.items c.values.result.now c.loop-variable.yielded
    c.into_iter-variable-iterator.result c.loop-variable.variable-iterator c.next.new.self c.next.result
    (ap (λ z. iter_rest (zip_first z)) c.into_iter-variable-iterator.ensures.into_iter_gives ∙ ap iter_rest c.zip-variable-items.ensures.first ∙ c.iter.ensures.rest ∙ c.deref.ensures.value)
    (ap (λ z. iter_rest (zip_second z)) c.into_iter-variable-iterator.ensures.into_iter_gives ∙ c.zip-variable-items.ensures.second.0)
    c.loop-variable.yielded_by c.in-None.is c.next.ensures.steps in
    let long : length c.values.result.now ≡ length (state_of c.args.state.now) = sym (length-map c.values.result.now (λ u. Holds (value_in u))) ∙ ap length c.values.ensures in
    both_all (λ variable held. variable_line variable (value_held held) ∷ []) (program_of c.args.program.now).variables (state_of c.args.state.now)
    _ _ (length c.loop-variable.yielded)
    (subst (λ (m : ℕ). length c.loop-variable.yielded ≡ min (length (program_of c.args.program.now).variables) m) long (rw length-map end)) c.loop-variable.invariant
