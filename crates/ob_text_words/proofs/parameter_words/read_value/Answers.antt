use Rattle.std.proofs.Common.{rules, w32}
use Rattle.std.proofs.lemmas.Int.{to_z-of_z}
use Rattle.ob_text_words.specs.Values.{integer, boolean}
use Rattle.ob_text_words.proofs.parameter_words.read_value.Goals as goal
use mir.Val.{SFits}

pub returns-in_ok-read_integer-in-Integer : goal.returns-in_ok-read_integer-in-Integer
returns-in_ok-read_integer-in-Integer c =
    let fits : SFits w32 c.in_ok-read_integer-in-Integer.field-0 = search rules in
    rw (c.in-Integer.is, to_z-of_z) (integer c.in_ok-read_integer-in-Integer.ensures)

pub returns-in_ok-read_truth-in-Boolean : goal.returns-in_ok-read_truth-in-Boolean
returns-in_ok-read_truth-in-Boolean c = rw c.in-Boolean.is (boolean c.in_ok-read_truth-in-Boolean.ensures)
