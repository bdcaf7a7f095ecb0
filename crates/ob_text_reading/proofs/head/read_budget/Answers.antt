use Rattle.std.proofs.Common.{◌≡◌, ◌∷◌, codes, rules}
use Rattle.ob_text_reading.proofs.OneEvent.{budget_read}
use Rattle.ob_text_reading.proofs.head.read_budget.Goals as goal

pub returns : goal.returns
returns c =
    let parts : c.args.words.now ≡ c.in-Some.first.now ∷ c.in-Some.rest.now = search rules in
    let is : c.in-Some.first.now.now ≡ codes "b" = search rules in
    rw (parts, is) (budget_read _ _ c.read_only_number.ensures)
