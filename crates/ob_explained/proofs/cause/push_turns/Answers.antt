use Rattle.std.proofs.Common.{◌∙◌, ◌++◌, ap, append_assoc, codes, string_bytes}
use Rattle.std.specs.Prelude.{decimal}
use Rattle.ob_explained.specs.TrapSentences.{turns_of}
use Rattle.ob_explained.proofs.Appended.{appended}
use Rattle.ob_explained.proofs.cause.push_turns.Goals as goal

pub returns : goal.returns
returns c =
    let before = string_bytes c.args.sentence.now in
    let words = codes "no turn is left of the " in
    let turns = decimal c.turns_of.result in
    let runner = c.runner_text.result.now in
    appended c.push_str-2.result _ _ _ _ c.push_str-2.ensures.bytes
    (ap (λ t. t ++ runner) (c.in_ok-push_number.ensures.ok ∙ ap (λ t. t ++ turns) c.in_ok-push_str.ensures.bytes)
    ∙ append_assoc (before ++ words) turns runner ∙ append_assoc before words (turns ++ runner)
    ∙ ap (λ n. before ++ (words ++ (decimal n ++ runner))) c.turns_of.ensures
    ∙ ap (λ t. before ++ (words ++ (decimal (turns_of c.args.runner) ++ t))) c.runner_text.ensures)
