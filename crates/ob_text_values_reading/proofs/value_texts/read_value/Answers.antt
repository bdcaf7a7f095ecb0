use Rattle.ob_text_values_reading.proofs.OneValue.{one_value_of}
use Rattle.ob_text_values_reading.proofs.Taken.{not_whole, taken_text, whole_taken}
use Rattle.ob_text_values_reading.proofs.value_texts.read_value.Goals as goal

pub returns-in_default-clause-found : goal.returns-in_default-clause-found
returns-in_default-clause-found c = λ v h. (rw c.in_default.is at c.in_ok-value.ensures) v _ (whole_taken c.args.text.now v h)

pub returns-then-is_empty-clause-alone : goal.returns-then-is_empty-clause-alone
returns-then-is_empty-clause-alone c = λ w h.
    one_value_of c.args.text.now w _ h (taken_text c.args.text.now _ _ (rw c.in-Some.is at c.in_ok-value.ensures) c.if-is_empty.ensures)

pub returns-else-is_empty-clause-found : goal.returns-else-is_empty-clause-found
returns-else-is_empty-clause-found c = not_whole c.args.text.now _ _ (rw c.in-Some.is at c.in_ok-value.ensures) c.if-is_empty.ensures
