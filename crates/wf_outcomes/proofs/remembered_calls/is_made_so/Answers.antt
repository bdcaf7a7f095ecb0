-- By the words and the call.
use Rattle.std.proofs.Common.{sym, ap, ◌∙◌}
use Rattle.wf_outcomes.specs.declared.seen.Stated.{Stated}
use Rattle.wf_outcomes.proofs.remembered_calls.is_made_so.Goals as goal

pub returns : goal.returns
returns g c = λ t. (ap (λ (s : Stated g.row.S.Denot). s.words.items) (sym c.as_ref.ensures) ∙ c.has_same_words.ensures c.if-not-has_same_words.false, c.is_same_call.ensures t)
