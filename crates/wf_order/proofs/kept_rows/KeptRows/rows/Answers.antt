-- The rows of all events.
use Rattle.std.proofs.Common.{map, refl, subst, sym}
use Rattle.wf_order.specs.Rising.{EachRises}
use Rattle.wf_order.proofs.Rowing.{few_of_kept, rows_of_kept}
use Rattle.wf_order.proofs.kept_rows.KeptRows.rows.Goals as goal

pub invariant_of-result : goal.invariant_of-result
invariant_of-result c = record {
  begun_rise = subst (λ l. EachRises (λ b. b.place) (map (λ row. row.items) l)) (sym c.as_slice.ensures.value) c.args.self.now.begun_rise;
  ended_rise = subst (λ l. EachRises (λ e. e.place) (map (λ row. row.items) l)) (sym c.as_slice-2.ensures.value) c.args.self.now.ended_rise;
}

pub returns-clause-rows : goal.returns-clause-rows
returns-clause-rows c = λ history processes kept. rows_of_kept history processes c.args.self.now _ c.as_slice.ensures.value c.as_slice-2.ensures.value refl kept

pub returns-clause-few : goal.returns-clause-few
returns-clause-few c = λ history processes kept. few_of_kept history processes c.args.self.now kept c.as_slice.result.now c.as_slice.ensures.value
