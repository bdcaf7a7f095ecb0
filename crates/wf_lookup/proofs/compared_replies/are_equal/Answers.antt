-- Lists of scalars are the same where they are equal.
use Rattle.std.proofs.lemmas.Slice.Eq.{slice_eq-Decides}
use Rattle.wf_history.proofs.Same.{scalar_eq, scalar_decides}
use Rattle.wf_lookup.proofs.compared_replies.are_equal.Goals as goal

pub returns-in_default : goal.returns-in_default
returns-in_default c = slice_eq-Decides {E = scalar_eq} scalar_decides c.args.items.now c.args.others.now c.eq-in_default.result c.eq-in_default.ensures
