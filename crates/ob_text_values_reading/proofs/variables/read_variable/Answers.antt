use Rattle.std.proofs.Common.{◌∙◌, ◌∷◌, ap}
use Rattle.ob_text_words.specs.Words.{words}
use Rattle.ob_text_values_reading.proofs.VariableLines.{one_byte, variable_result}
use Rattle.ob_text_values_reading.proofs.variables.read_variable.Goals as goal

pub returns : goal.returns
returns c =
    variable_result c.args.kind _ _ _
    (c.in-Some.ensures.words ∙ ap (λ w. w ∷ words c.in-Some.behind.now) (one_byte c.in-Some.first.now c.args.kind c.in-len1.len_at_least c.in-len1.len_below c.if-byte-kind.false))
    c.read_said.ensures
