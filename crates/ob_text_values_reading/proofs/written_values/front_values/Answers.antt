use Rattle.std.proofs.Common.{◌≡◌, ◌∷◌, ◌∙◌, refl, sym, rules}
use Rattle.ob_text_values_reading.proofs.WrittenValues.{all_said, one_value_more, other_mode}
use Rattle.ob_text_values_reading.proofs.written_values.front_values.Goals as goal
use Rattle.ob_text_values_reading.proofs.written_values.front_values.Goals.{then-is_of_mode+in-Some+in_ok-push, else-is_of_mode}

pub loop-formal-preserved : goal.loop-formal-preserved
loop-formal-preserved c =
    elim c.if-is_of_mode.branch [
      | then-is_of_mode+in-Some+in_ok-push w ↦
          rw (w.values-is, w.left-is, w.in_ok-push.ensures.ok) (one_value_more _ _ _ _ _ _ _ _ c.loop-formal-test.true refl c.loop-formal.invariant
          w.in-Some.value w.in-Some.behind.now (sym c.is_of_mode.ensures ∙ w.if-is_of_mode.true) w.in-Some.ensures)
      | else-is_of_mode w ↦
          rw (w.values-is, w.left-is) (other_mode _ _ _ _ _ _ _ _ c.loop-formal-test.true refl c.loop-formal.invariant (sym c.is_of_mode.ensures ∙ w.if-is_of_mode.false))
    ]

pub returns : goal.returns
returns c =
    let feed : c.loop-formal.left.now ≡ 10 ∷ c.in-Some-eq10-default.rest.now = search rules in
    let same : c.in_ok-kept.kept.items ≡ c.loop-formal.values.items = search rules in
    rw same (all_said _ _ _ _ _ _ _ c.loop-formal-test.false feed c.loop-formal.invariant)
