use Rattle.std.proofs.Common.{◌≡◌, ◌∷◌, [], rules}
use Rattle.std.proofs.lemmas.List.{nil_from_length}
use Rattle.ob_explain_arguments.proofs.Pushes.{pushed_if}
use Rattle.ob_explain_arguments.proofs.sentences.push_names.Goals as goal

pub returns-in_default : goal.returns-in_default
returns-in_default c =
    let none : c.args.exports.now ≡ [] = nil_from_length _ c.in_default.ensures.cases in
    rw none (pushed_if _ _ _ _ c.push_str.ensures.bytes)

pub returns : goal.returns
returns c =
    let parts : c.args.exports.now ≡ c.in-Some.first.now ∷ c.in-Some.rest.now = search rules in
    rw parts c.push_some.ensures
