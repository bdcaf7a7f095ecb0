use Rattle.std.proofs.Common.{◌++◌, ap, sym, ◌∙◌}
use Rattle.ob_code_scheme.specs.Layout as Words
use Rattle.ob_store.specs.View.{value_in, values_in}
use Rattle.ob_store.proofs.Parts.{value_in-parts}
use Rattle.ob_layout.proofs.encoding.+writing.Goals as goal

pub write_value-returns-in_ok-write_values-in-Parts : goal.write_value-returns-in_ok-write_values-in-Parts
write_value-returns-in_ok-write_values-in-Parts t c =
    c.in_ok-write_values-in-Parts.ensures
    ∙ ap (λ vs. c.args.words.now.items ++ Words.flat_all (values_in vs)) c.as_slice.ensures.value
    ∙ sym (ap (λ v. c.args.words.now.items ++ Words.flat v) (ap value_in c.in-Parts.is ∙ value_in-parts c.in-Parts.parts))
