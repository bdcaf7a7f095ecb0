use Rattle.ob_text_values_reading.proofs.Taken.{no_scalar, scalar_taken}
use Rattle.ob_text_values_reading.proofs.value_texts.take_scalar.Goals as goal

pub returns-in_err-scalar : goal.returns-in_err-scalar
returns-in_err-scalar c = λ limit. rw c.from_residual.ensures (no_scalar _ _ _ c.requires c.split_mark.ensures.alone c.in_err-scalar.ensures limit)

pub returns : goal.returns
returns c = λ limit. scalar_taken _ _ _ c.in_ok-scalar.ensures.0 c.in_ok-scalar.scalar c.split_mark.ensures.joined c.split_mark.ensures.ends c.in_ok-scalar.ensures.1 limit
