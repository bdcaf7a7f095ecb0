use Rattle.std.proofs.Common.{suc, arith}
use Rattle.ob_explained.proofs.call_remark.told_place.Goals as goal

pub returns-in-Some-clause-marked : goal.returns-in-Some-clause-marked
returns-in-Some-clause-marked c = (suc (suc c.in-Some.number), omega arith, c.place_of_value.ensures.marked)

pub returns-in-None-clause-marked : goal.returns-in-None-clause-marked
returns-in-None-clause-marked c = (1, omega arith, c.place_of_name.ensures.marked)
