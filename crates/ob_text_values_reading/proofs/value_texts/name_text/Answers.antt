use Rattle.ob_text_values_reading.proofs.Marks.{name_utf8}
use Rattle.ob_text_values_reading.proofs.value_texts.name_text.Goals as goal

pub unreachable-requires : goal.unreachable-requires
unreachable-requires c = c.in-Err.ensures.cases.0 (name_utf8 c.args.name.now c.requires)
