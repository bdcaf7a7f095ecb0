use Rattle.std.proofs.Common.{◌∙◌, inr, refl}
use Rattle.std.proofs.lemmas.Result.{IfOk-weaker}
use Rattle.ob_answer.proofs.answer.obey_bound.Goals as goal

pub returns-in-Ok : goal.returns-in-Ok
returns-in-Ok g c = IfOk-weaker c.answer_bound.result _ _ (λ a h. inr (
  c.in-Ok.ensures.0,
  c.read_beginning.new.self,
  c.in-Ok.ensures.1,
  (h c.in-Ok.ensures.0 (c.as_slice.ensures.value ∙ c.in-Ok.ensures.2), refl),
)) c.answer_bound.ensures
