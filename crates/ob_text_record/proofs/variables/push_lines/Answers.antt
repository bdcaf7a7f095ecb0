use Rattle.std.proofs.Common.{◌∙◌, ap, length}
use Rattle.std.proofs.lemmas.List.{length_push}
use Rattle.std.proofs.lemmas.Slice.Zip.{zip_turn, zip_end}
use Rattle.std.specs.Iterator.Adapters.{zip_first, zip_second}
use Rattle.std.specs.Slice.Iter.{iter_rest}
use Rattle.ob_checked.specs.View.{table_of}
use Rattle.ob_store.specs.View.{state_of}
use Rattle.ob_text_words.proofs.Appended.{left, more, some_more}
use Rattle.ob_text_record.proofs.Texts.{state_end, state_more}
use Rattle.ob_text_record.proofs.variables.push_lines.Goals as goal

pub loop-variable-preserved : goal.loop-variable-preserved
loop-variable-preserved c =
    let turn =
    zip_turn c.args.program.now.variables.items c.values.result.now c.loop-variable.yielded
    c.into_iter-variable-iterator.result c.loop-variable.variable-iterator c.next.new.self c.next.result
    (ap (λ z. iter_rest (zip_first z)) c.into_iter-variable-iterator.ensures.into_iter_gives ∙ ap iter_rest c.zip-variable-items.ensures.first ∙ c.iter.ensures.rest ∙ c.deref.ensures.value)
    (ap (λ z. iter_rest (zip_second z)) c.into_iter-variable-iterator.ensures.into_iter_gives ∙ c.zip-variable-items.ensures.second.0)
    c.loop-variable.yielded_by (c.in-Some.variable, c.in-Some.value) c.in-Some.is c.next.ensures.steps in
    record {
      so_far =
          rw length_push
          (state_more c.args.mark.now (table_of c.args.program.now.types) c.args.program.now.variables.items c.values.result.now (state_of c.args.state.now) c.values.ensures
          _ _ _ (length c.loop-variable.yielded) c.in-Some.variable.now c.in-Some.value.now turn.0 (turn.2 _) turn.1 (turn.3 _)
          c.in_ok-push_line.ensures.ok c.loop-variable.invariant.so_far);
      kept = more _ c.loop-variable.invariant.kept c.in_ok-push_line.ensures.ok;
    }

pub returns-in_err-push_line-clause-left : goal.returns-in_err-push_line-clause-left
returns-in_err-push_line-clause-left c =
    left c.from_residual.result (some_more c.loop-variable.invariant.kept c.in_err-push_line.ensures.left)

pub returns-clause-ok : goal.returns-clause-ok
returns-clause-ok c =
    let end = zip_end c.args.program.now.variables.items c.values.result.now c.loop-variable.yielded
    c.into_iter-variable-iterator.result c.loop-variable.variable-iterator c.next.new.self c.next.result
    (ap (λ z. iter_rest (zip_first z)) c.into_iter-variable-iterator.ensures.into_iter_gives ∙ ap iter_rest c.zip-variable-items.ensures.first ∙ c.iter.ensures.rest ∙ c.deref.ensures.value)
    (ap (λ z. iter_rest (zip_second z)) c.into_iter-variable-iterator.ensures.into_iter_gives ∙ c.zip-variable-items.ensures.second.0)
    c.loop-variable.yielded_by c.in-None.is c.next.ensures.steps in
    state_end c.args.mark.now (table_of c.args.program.now.types) c.args.program.now.variables.items c.values.result.now (state_of c.args.state.now) c.values.ensures
    _ _ (length c.loop-variable.yielded) end c.loop-variable.invariant.so_far
