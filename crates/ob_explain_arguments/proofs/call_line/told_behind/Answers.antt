use Rattle.std.proofs.Common.{◌≡◌, ◌∷◌, [], refl, rules}
use Rattle.std.proofs.lemmas.List.{nil_from_length}
use Rattle.ob_explain_arguments.proofs.call_line.told_behind.Goals as goal

pub returns-in_default : goal.returns-in_default
returns-in_default c =
    let none : c.args.words.now ≡ [] = nil_from_length _ c.in_default.ensures.cases in
    rw none refl

pub returns : goal.returns
returns c =
    let parts : c.args.words.now ≡ c.in-Some.name.now ∷ c.in-Some.values.now = search rules in
    rw parts c.told_for.ensures
