use Rattle.std.proofs.Common.{arith, refl}
use Rattle.wf_parts.proofs.Rowing.{longer}
use Rattle.wf_parts.proofs.part.push_number.Goals as goal

pub returns-clause-rows : goal.returns-clause-rows
returns-clause-rows c =
    let size = c.reach.new.numbers.ok.0 in
    let within = c.in_ok-reach.ensures.within in
    longer c.args.numbers.now.items c.reach.new.numbers.items _ c.args.id c.index_mut-row.result.now c.push.new.self c.in_ok-reach.ensures.rows (omega (arith, size, within))
    c.index_mut-row.ensures.value c.in_ok-push.ensures.items refl
