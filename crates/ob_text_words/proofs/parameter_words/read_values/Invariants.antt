-- The values of the parameters so far.
use Rattle.std.proofs.Common.{map}
use Rattle.ob_text_words.proofs.ValueReading.{HasRead}
use Rattle.ob_text_words.proofs.parameter_words.read_values.Given as goal

abbrev pub invariant-loop-formal : goal.invariant-loop-formal
invariant-loop-formal l = HasRead l.is_var l.formals (map (λ w. w.now) l.words) l.formal-index l.values.items
