-- By the counts and the words.
use Rattle.std.proofs.Common.{sym, ap, ◌∙◌}
use Rattle.wf_outcomes.specs.declared.seen.Stated.{Stated}
use Rattle.wf_outcomes.proofs.meetings.meets_alike.Goals as goal

pub returns-then-count-taken : goal.returns-then-count-taken
returns-then-count-taken g c = λ t. record {
  within = c.requires;
  count = sym c.count_at-count.ensures ∙ c.if-count-taken.true ∙ c.count_at-taken.ensures;
  words = ap (λ (s : Stated g.row.S.Denot). s.words.items) (sym c.as_ref.ensures) ∙ c.has_same_words.ensures t ∙ ap (λ (s : Stated g.row.S.Denot). s.words.items) c.as_ref-then-count-taken.ensures;
}
