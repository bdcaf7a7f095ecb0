use Rattle.ob_explained_lines.specs.Causes.{words_before}
use Rattle.ob_explained_records.proofs.Somewhere.{at_first}
use Rattle.ob_explained_records.proofs.record_remark.told_form.Goals as goal

pub returns-in-Some-clause-marked : goal.returns-in-Some-clause-marked
returns-in-Some-clause-marked c = (words_before c.in-Some.cause.spot, c.place_of_spot.ensures.marked)

pub returns-in-None-clause-marked : goal.returns-in-None-clause-marked
returns-in-None-clause-marked c = at_first c.args.text.now c.args.number c.first_remark.result c.first_remark.ensures.marked
