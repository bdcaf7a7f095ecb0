-- What is read, and 0 past the end.
use Rattle.std.proofs.Common.{sym, ◌∙◌}
use Rattle.wf_counts.proofs.Digits.{get_there, none_there}
use Rattle.wf_counts.proofs.counts.Counts.count.Goals as goal

pub returns-in_default : goal.returns-in_default
returns-in_default c = sym (none_there c.args.self.now.items c.args.process (sym c.get.ensures ∙ c.in_default.is))

pub returns : goal.returns
returns c = sym (get_there c.args.self.now.items c.args.process c.in-Some.count (sym c.get.ensures ∙ c.in-Some.is))
