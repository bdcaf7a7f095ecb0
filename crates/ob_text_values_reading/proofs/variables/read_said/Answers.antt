use Rattle.ob_text_values_reading.proofs.VariableLines.{said_here}
use Rattle.ob_text_values_reading.proofs.variables.read_said.Goals as goal

pub returns : goal.returns
returns c =
    said_here _ _ _ _ _ _ _ c.in-Some.ensures.words c.in-Some-next_word.ensures.words c.in-None.ensures.words (c.is_name.ensures.0 c.if-not-is_name.false) c.in_ok-name_text.ensures
    (rw c.in-Some-2.is at c.in_ok-value.ensures.found)
