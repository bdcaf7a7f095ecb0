use Rattle.ob_text_words.specs.Words.{words}
use Rattle.ob_explained.proofs.ValueLines.{told_by}
use Rattle.ob_explained.proofs.value_line.tells_value.Goals as goal

pub returns : goal.returns
returns c = told_by c.begins_with.result (words c.args.line.now) c.begins_with.ensures
