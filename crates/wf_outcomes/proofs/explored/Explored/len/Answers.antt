-- As many as are kept.
use Rattle.std.proofs.Common.{sym, ◌∙◌}
use Rattle.std.proofs.lemmas.List.{length-map}
use Rattle.wf_outcomes.specs.Explored.{kept_in}
use Rattle.wf_outcomes.proofs.explored.Explored.len.Goals as goal

pub returns : goal.returns
returns g c = c.len.ensures.len ∙ sym (length-map c.args.self.now.seen.keys (kept_in g.O.Object.meaning))
