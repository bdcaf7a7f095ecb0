use Rattle.std.proofs.Common.{◌≡◌, ◌∷◌, ◌-◌, true, arith, rules}
use Rattle.std.proofs.lemmas.Grind.{common_steps}
use Rattle.std.specs.Char.{is_ascii_digit}
use Rattle.ob_text_values_reading.proofs.WrittenWords.{one_digit}
use Rattle.ob_text_values_reading.proofs.text_beginning.front_process.Goals as goal

pub returns : goal.returns
returns c =
    let parts : c.args.text.now ≡ c.in_ok-first.first.now ∷ c.in_ok-first.behind.now = search rules in
    let behind : c.in_ok-first.behind.now ≡ c.in_ok-point.point.now ∷ c.in_ok-point.rest.now = search rules in
    let point : c.in_ok-point.point.now ≡ 46 = grind (arith, common_steps) in
    let digit : is_ascii_digit c.in_ok-first.first.now ≡ true = grind (arith, common_steps) in
    let is : c.from-process.result ≡ c.in_ok-first.first.now - 48 = grind (arith, common_steps) in
    rw (parts, behind, point) (one_digit c.in_ok-first.first.now c.in_ok-point.rest.now c.from-process.result digit is)
