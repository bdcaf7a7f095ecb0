use Rattle.wf_table.proofs.HelpAndOrderLaws.{order_once, announced_below}
use Rattle.wf_table.proofs.Timed.{never_before}
use Rattle.wf_theorems.proofs.exchanges.one_order.Goals as goal

pub returns-clause-once : goal.returns-clause-once
returns-clause-once g c = λ e z s committed. order_once z s.cell s.processes s.records committed.ordered

pub returns-clause-announced : goal.returns-clause-announced
returns-clause-announced g c = λ e z s id committed within. announced_below z s.cell s.processes s.records id committed.helpful committed.ordered within

pub returns-clause-ended : goal.returns-clause-ended
returns-clause-ended g c = λ e z s id reply committed within. committed.timed.ended within.0 id reply (within.1, within.2)

pub returns-clause-in_time : goal.returns-clause-in_time
returns-clause-in_time g c = λ e z s first second third a b committed split before.
    never_before s.records.history s.records.order first second third a b (order_once z s.cell s.processes s.records committed.ordered) committed.timed split before
