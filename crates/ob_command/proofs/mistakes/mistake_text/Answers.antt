use Rattle.std.proofs.Common.{◌≡◌, codes, rules, true}
use Rattle.std.proofs.lemmas.Result.{IfOk-weaker}
use Rattle.ob_command.proofs.Readings.{not_loose}
use Rattle.ob_command.proofs.mistakes.mistake_text.Goals as goal

pub returns-then-negative : goal.returns-then-negative
returns-then-negative c =
    let negative : c.args.negative ≡ true = search rules in
    IfOk-weaker c.number_mistake-then-negative.result _ _
    (λ text said. (λ of_number. (codes "error: there is no number below 0; ", said), λ loose. absurd (not_loose c.args.kind c.args.negative negative loose)))
    c.number_mistake-then-negative.ensures
