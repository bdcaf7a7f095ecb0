use Rattle.std.proofs.Common.{ap, length, arith}
use Rattle.ob_text_reading.proofs.RecordHeads.{second_fails, second_told, second_without}
use Rattle.ob_text_reading.proofs.record_reading.read_second.Goals as goal

pub returns-in_default-clause-fault : goal.returns-in_default-clause-fault
returns-in_default-clause-fault c = λ title second t n. second_without _ title second _ _ t n (rw c.in_default.is at c.in_ok-budget.ensures)

pub read_behind-requires : goal.read_behind-requires
read_behind-requires c =
    let taken = rw c.in-Some.is at c.in_ok-budget.ensures in
    let one_less = ap length taken.parts in
    rw c.plain_head-head.ensures (omega (arith, one_less, c.requires))

pub returns-clause-record : goal.returns-clause-record
returns-clause-record c =
    λ title second t n.
    second_told _ title second _ _ _ _ _ (rw c.in-Some.is at c.in_ok-budget.ensures) t n (rw c.plain_head-head.ensures at c.read_behind.ensures.told)
    (rw (c.plain_head-head.ensures, c.exports.ensures) at c.read_behind.ensures.record)

pub returns-clause-fault : goal.returns-clause-fault
returns-clause-fault c =
    λ title second t n.
    second_fails _ title second _ _ _ _ _ (rw c.in-Some.is at c.in_ok-budget.ensures) t n (rw (c.plain_head-head.ensures, c.exports.ensures) at c.read_behind.ensures.fault)
