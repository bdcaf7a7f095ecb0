use Rattle.std.proofs.Common.{◌<◌, ◌≤◌, arith}
use Rattle.std.proofs.lemmas.List.{take_rest}
use Rattle.ob_text_values_reading.proofs.WrittenWords.{id_begins}
use Rattle.ob_text_values_reading.proofs.text_beginning.front_id.Goals as goal

pub returns : goal.returns
returns c =
    let front = c.front_number-number in
    let below : c.in_ok-process.process < c.args.processes = omega arith in
    let some : 1 ≤ front.result.1 = omega arith in
    rw (take_rest c.in_ok-process.digits.now front.result.1)
    (id_begins c.args.processes c.args.text.now c.in_ok-process.digits.now c.in_ok-process.process front.result.0 front.result.1 c.in_ok-process.ensures below
    front.ensures.digits front.ensures.spells front.ensures.small some front.ensures.within)
