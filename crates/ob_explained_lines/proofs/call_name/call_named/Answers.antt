use Rattle.std.proofs.Common.{◌≡◌, ◌∷◌, ◌<◌, ◌^◌, rules}
use Rattle.ob_text_reading.specs.RecordLines.{id}
use Rattle.ob_explained_lines.proofs.call_name.call_named.Goals as goal

pub returns : goal.returns
returns c =
    let behind : c.split_digits.result.1.now ≡ 46 ∷ c.in-Some-eq46-default.rest.now = search rules in
    let process : c.in_ok-process.process ≡ c.in_ok-read_numeral.field-0 = search rules in
    let small : c.in_ok-number.number < 2 ^ 64 = search rules in
    rw (← c.split_digits.ensures.joined, behind, process) (id c.in_ok-read_numeral.ensures (rw process at c.if-process-ge-PROCESS_NUMBERS.false) c.in_ok-number.ensures small)
