use Rattle.std.proofs.Common.{◌+◌, ◌-◌, ap, ◌∙◌}
use Rattle.std.proofs.lemmas.List.{take_rest}
use Rattle.ob_explained.specs.ScriptPlaces.{word_place}
use Rattle.ob_explained.proofs.WordPlaces.{first_word_place, next_word_place, told_at}
use Rattle.ob_explained.proofs.script_place.+word_place.Goals as goal

pub returns-then-number-eq0-clause-word : goal.returns-then-number-eq0-clause-word
returns-then-number-eq0-clause-word t c =
    told_at c.args.number c.args.line.now c.blanks.result
    (first_word_place c.args.number c.args.line.now c.blanks.result c.if-number-eq0.true c.blanks.ensures.count)

pub returns-clause-place : goal.returns-clause-place
returns-clause-place t c =
    let line = c.args.line.now in
    let end = c.first_end-end.result in
    next_word_place c.args.number line end c.word_place.result c.if-number-eq0.false c.first_end-end.ensures.place
    (c.word_place.ensures.place ∙ ap (word_place (c.args.number - 1)) (take_rest line end))

pub returns-clause-word : goal.returns-clause-word
returns-clause-word t c =
    let line = c.args.line.now in
    let end = c.first_end-end.result in
    told_at c.args.number line (end + c.word_place.result)
    (next_word_place c.args.number line end c.word_place.result c.if-number-eq0.false c.first_end-end.ensures.place
    (c.word_place.ensures.place ∙ ap (word_place (c.args.number - 1)) (take_rest line end)))
