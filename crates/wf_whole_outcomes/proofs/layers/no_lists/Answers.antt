-- The first list, and no link.
use Rattle.std.proofs.lemmas.List.{nil_from_length}
use Rattle.wf_whole_outcomes.proofs.layers.no_lists.Goals as goal

pub returns-clause-links : goal.returns-clause-links
returns-clause-links c = nil_from_length c.with_hasher-links.result.keys c.with_hasher-links.ensures.len
