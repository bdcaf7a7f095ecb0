-- By the lists that are lent.
use Rattle.std.proofs.Common.{sym, ◌∙◌}
use Rattle.wf_lookup.proofs.compared_replies.are_same_lent.Goals as goal

pub returns : goal.returns
returns c = λ t. sym (c.as_slice.ensures ∙ c.lent.ensures) ∙ c.are_equal.ensures.0 t ∙ (c.as_slice-2.ensures ∙ c.lent-2.ensures)
