use Rattle.std.proofs.Common.{◌+◌, suc, ap, ◌∙◌}
use Rattle.std.proofs.lemmas.List.{take_rest}
use Rattle.ob_explained.specs.ScriptPlaces.{word_place}
use Rattle.ob_explained.proofs.WordPlaces.{behind_word_place, told_at}
use Rattle.ob_explained.proofs.script_place.behind_place.Goals as goal

pub returns-clause-word : goal.returns-clause-word
returns-clause-word c =
    let line = c.args.line.now in
    let number = c.args.number in
    let end = c.first_end-end.result in
    told_at (suc (suc (suc number))) line (end + c.value_place.result)
    (behind_word_place number line end c.value_place.result c.first_end-end.ensures.place
    (c.value_place.ensures.place ∙ ap (word_place (suc (suc number))) (take_rest line end)))
