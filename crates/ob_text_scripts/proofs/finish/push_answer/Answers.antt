use Rattle.std.proofs.Common.{◌≡◌, ◌∷◌, [], rules}
use Rattle.std.proofs.lemmas.List.{nil_from_length}
use Rattle.std.proofs.lemmas.Result.{on_ok_weaker}
use Rattle.ob_text_scripts.specs.Finish.{nothing}
use Rattle.ob_text_scripts.proofs.Answering.{goes_on_alone}
use Rattle.ob_text_scripts.proofs.finish.push_answer.Goals as goal

pub returns-in_default : goal.returns-in_default
returns-in_default c =
    let none : c.args.words.now ≡ [] = nil_from_length _ c.in_default.ensures.cases in
    rw none (goes_on_alone [] c.args.text.now.items nothing)

pub returns : goal.returns
returns c =
    let parts : c.args.words.now ≡ c.in-Some.first.now ∷ c.in-Some._rest.now = search rules in
    rw parts (on_ok_weaker c.push_answer_of.result (λ h. h _) c.push_answer_of.ensures)
