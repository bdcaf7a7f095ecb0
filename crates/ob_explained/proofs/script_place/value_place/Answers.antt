use Rattle.std.proofs.Common.{◌+◌, ◌-◌, ℕ, List, suc, ap, drop, length, take, ◌∙◌}
use Rattle.std.proofs.lemmas.List.{take_rest}
use Rattle.ob_explained.specs.ScriptPlaces.{first_end, word_place}
use Rattle.ob_explained.proofs.WordPlaces.{told_at, value_word_place}
use Rattle.ob_explained.proofs.script_place.value_place.Goals as goal

pub returns-clause-word : goal.returns-clause-word
returns-clause-word c =
    let line = c.args.line.now in
    let first = c.first_end-first.result in
    let second = c.first_end-second.result in
    let rest : List ℕ = take (length line - first) (drop first line) in
    told_at (suc (suc c.args.number)) line (first + (second + c.word_place.result))
    (value_word_place c.args.number line first second c.word_place.result c.first_end-first.ensures.place
    (c.first_end-second.ensures.place ∙ ap first_end (take_rest line first))
    (c.word_place.ensures.place ∙ ap (word_place c.args.number) (take_rest rest second ∙ ap (drop second) (take_rest line first))))
