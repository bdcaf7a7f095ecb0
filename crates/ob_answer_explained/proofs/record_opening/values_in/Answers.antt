use Rattle.std.proofs.Common.{ℕ, List, subst}
use Rattle.ob_answer_explained.specs.Beginnings.{by_body, by_values, none}
use Rattle.ob_carry.specs.View.{entries_of}
use Rattle.ob_text_values_reading.specs.ReadValues.{AreValuesOf, IsValuesFault}
use Rattle.ob_answer_explained.proofs.record_opening.values_in.Goals as goal

pub returns-in-None-clause-begins : goal.returns-in-None-clause-begins
returns-in-None-clause-begins c = rw c.in-None.is by_body

pub returns-in-Ok-clause-begins : goal.returns-in-Ok-clause-begins
returns-in-Ok-clause-begins c = rw c.in-Some.is (by_values (subst (λ (t : List ℕ). AreValuesOf t (entries_of c.in-Ok.values.items)) c.as_slice.ensures.value c.in-Ok.ensures.values))

pub returns-in-Err-clause-none : goal.returns-in-Err-clause-none
returns-in-Err-clause-none c = rw c.in-Some.is (λ says. none (subst (λ (t : List ℕ). IsValuesFault t c.in-Err.fault) c.as_slice.ensures.value c.in-Err.ensures.fault) says)
